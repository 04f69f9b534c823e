mod EachLemmas
mod ObjectLemmas
