-- The text of a listing, and the tables that it is made of.
pub mod Rows
pub mod Listing
pub mod Told
