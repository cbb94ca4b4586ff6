pub mod SubsetFacts
