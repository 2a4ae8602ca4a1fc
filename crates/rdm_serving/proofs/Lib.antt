pub mod SettledLemmas
pub mod IndexLemmas
pub mod LoggedLemmas
pub mod CalledLemmas
pub mod RingLemmas
pub mod TurnLemmas
