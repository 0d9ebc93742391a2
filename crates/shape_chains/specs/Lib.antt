pub mod ChainsShape
