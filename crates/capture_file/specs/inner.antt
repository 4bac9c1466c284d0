pub mod Internet
