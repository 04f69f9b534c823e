mod ClearedLemmas
