pub mod Numbers
pub mod Known
pub mod Decoding
pub mod Reading
pub mod Exact
pub mod Samples
