pub mod OppositeLaws
