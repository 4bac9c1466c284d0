pub mod Computing
pub mod LoginRows
pub mod SessionRows
pub mod ManyKeysRow
