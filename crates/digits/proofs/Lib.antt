pub mod DecimalBack
pub mod HexBack
