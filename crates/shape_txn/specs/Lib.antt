pub mod TxnShape
