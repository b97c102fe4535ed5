-- Laws that the function's proof cites.
pub mod Lists
pub mod Renews
