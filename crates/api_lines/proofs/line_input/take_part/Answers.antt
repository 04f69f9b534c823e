use Rattle.std.proofs.Common.{rules, ◌+◌, ◌∙◌, ◌++◌, ◌∷◌, [], ℕ, List, Option, eqb-true, get_or, ap, ◌≤◌, length, ◌-◌, ◌<◌, take, subst, arith, length-take-le}
use Rattle.std.proofs.lemmas.List.{take_more}
use Rattle.std.specs.Io.KnownBytes.{Consumes}
use Rattle.memchr.specs.Find.{NoneBefore, Passes, is_byte}
use Rattle.api_lines.proofs.InputLemmas.{fewer, front_taken, front_unfed}
use Rattle.api_lines.proofs.LineLemmas.{first_line_feedless}
use Rattle.api_lines.proofs.line_input.take_part.Goals as goal

pub returns-in_ok-extend_from_slice-in-None-clause-part :
    goal.returns-in_ok-extend_from_slice-in-None-clause-part
returns-in_ok-extend_from_slice-in-None-clause-part g c =
    let bytes = c.bytes-bytes.result.now in
    let taken = c.min-taken.result in
    let within : taken ≤ length bytes = search rules in
    let some : 0 < taken = search rules in (
      take taken bytes,
      search rules,
      front_unfed bytes taken within (fewer bytes taken (length bytes) within c.in-None.ensures),
      omega (arith, some, length-take-le taken bytes within),
      front_taken _ _ _ _ _ taken c.in_ok-fill.ensures.bytes c.bytes-bytes.ensures c.consume-in-None.ensures,
    )

-- the bytes at hand up to a line feed, with it
taken_through : (old new : Option (List ℕ)) (bytes : List ℕ) (end : ℕ) → NoneBefore (Passes (is_byte 10) bytes) 0 (length bytes) end × Passes (is_byte 10) bytes end → Consumes old new (take (end + 1) bytes) → Consumes old new (take end bytes ++ 10 ∷ [])
taken_through old new bytes end found took =
    subst (Consumes old new) (take_more bytes end 0 found.0.high ∙ ap (λ b. take end bytes ++ b ∷ []) (eqb-true (get_or bytes end 0) 10 found.1)) took

pub returns-in_ok-extend_from_slice-in-Some-clause-part :
    goal.returns-in_ok-extend_from_slice-in-Some-clause-part
returns-in_ok-extend_from_slice-in-Some-clause-part g c =
    let bytes = c.bytes-bytes.result.now in
    let end = c.in-Some.end in (
      take end bytes,
      search rules,
      first_line_feedless bytes end c.in-Some.ensures,
      search rules,
      taken_through _ _ bytes end c.in-Some.ensures (front_taken _ _ _ _ _ (end + 1) c.in_ok-fill.ensures.bytes c.bytes-bytes.ensures c.consume.ensures),
    )

pub returns-in_ok-extend_from_slice-in-Some-2-clause-part :
    goal.returns-in_ok-extend_from_slice-in-Some-2-clause-part
returns-in_ok-extend_from_slice-in-Some-2-clause-part g c =
    let bytes = c.bytes-bytes.result.now in
    let room = 65537 - c.len.result in
    let found = c.in-Some.ensures in
    let inside : room ≤ c.in-Some.end = search rules in
    let within : room ≤ length bytes = omega (arith, inside, found.0.high) in
    let some : 0 < room = search rules in (
      take room bytes,
      search rules,
      front_unfed bytes room within (fewer bytes room c.in-Some.end inside found.0.before),
      omega (arith, some, length-take-le room bytes within),
      front_taken _ _ _ _ _ room c.in_ok-fill.ensures.bytes c.bytes-bytes.ensures c.consume-in-Some-2.ensures,
    )
