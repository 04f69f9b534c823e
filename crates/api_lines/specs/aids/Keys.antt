-- The keys that most lines have: aids of contracts and lemmas.
use Rattle.std.specs.Prelude.{ℕ, List, codes}
use Rattle.api_lines.specs.declared.keys.Key.{Key}
use Rattle.api_lines.specs.declared.keys.Key.TheVariants.{E, N, K, Id, Op, Body, Status, Shard, BodyId, SeqNo, PrimaryTerm, Outcome, Found, Source, IfSeqNo, IfPrimaryTerm, Other}

-- the key as it is spelled
abbrev pub key_text : Key → List ℕ
key_text E = codes "e"
key_text N = codes "n"
key_text K = codes "k"
key_text Id = codes "id"
key_text Op = codes "op"
key_text Body = codes "body"
key_text Status = codes "status"
key_text Shard = codes "shard"
key_text BodyId = codes "_id"
key_text SeqNo = codes "_seq_no"
key_text PrimaryTerm = codes "_primary_term"
key_text Outcome = codes "result"
key_text Found = codes "found"
key_text Source = codes "_source"
key_text IfSeqNo = codes "if_seq_no"
key_text IfPrimaryTerm = codes "if_primary_term"
key_text (Other s) = s.now
