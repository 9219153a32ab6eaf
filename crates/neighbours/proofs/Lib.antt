pub mod RowTests
pub mod Certificate
pub mod Table
