mod Requests
mod Turns
