pub mod Congruence
