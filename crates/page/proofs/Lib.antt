mod PageLemmas
