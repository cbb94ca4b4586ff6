pub mod Agreement
pub mod SolverAgreement
pub mod Replay
pub mod Walk
