mod DocumentsLemmas
mod WriteLemmas
mod RoundTrip
