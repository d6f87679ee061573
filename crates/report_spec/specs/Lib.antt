pub mod Printed
pub mod Pieces
pub mod PieceLaws
