pub mod Fcs
