-- Laws of loading.
pub mod Loading
