pub mod Brushes
