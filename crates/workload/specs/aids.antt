pub mod Clients
pub mod Gathering
pub mod Players
pub mod Seats
