mod ChainLemmas
mod PlacesLemmas
mod StretchLemmas
mod SweepLemmas
mod MomentLemmas
mod OrderLemmas
mod CompleteLemmas
mod SearchLemmas
