-- A new server keeps what a server keeps, and a history without calls leads to it.
pub mod TakenOverPorts
pub mod NewServer
