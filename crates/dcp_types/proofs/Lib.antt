pub mod Digits
pub mod Residues
pub mod OneToOne
