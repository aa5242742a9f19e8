-- What the code's parts and bytes stand for.
pub mod Parts
