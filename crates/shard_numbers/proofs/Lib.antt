mod TakenLemmas
mod TwiceMoved
mod TwiceSorted
