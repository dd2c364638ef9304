pub mod RequestLemmas
mod ReadingLemmas
pub mod EndLemmas
pub mod SettingLemmas
pub mod GrewLemmas
