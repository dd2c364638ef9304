mod FilterLemmas
mod GivingLemmas
