mod Beside
mod Examples
mod Living
mod Shelving
