pub mod TextLemmas
pub mod StayingLemmas
pub mod RelabelledLemmas
pub mod WithLabelLemmas
