mod Following
mod Growing
mod Examples
