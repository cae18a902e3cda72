pub mod Player
