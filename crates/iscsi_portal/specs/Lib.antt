pub mod Portal
