pub mod CallerLemmas
pub mod HexLemmas
pub mod NamingLemmas
pub mod SightLemmas
