pub mod Endpoints
