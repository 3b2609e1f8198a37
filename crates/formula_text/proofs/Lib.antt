mod Tokenized
mod Decided
mod Read
mod Spelled
mod Printed
mod Examples
