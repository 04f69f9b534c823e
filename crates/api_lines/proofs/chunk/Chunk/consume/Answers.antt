use Rattle.std.proofs.Common.{ℕ, List, ◌≡◌, ◌≤◌, ◌+◌, ◌-◌, ◌∙◌, ap, arith, drop, length, length-take, subst, sym, take}
use Rattle.std.specs.Prelude.{slice_range}
use Rattle.std.proofs.lemmas.List.{drop-drop, drop-take}
use Rattle.api_lines.proofs.chunk.Chunk.consume.Goals as goal

-- what is left of a range after its first bytes
later_range : (xs : List ℕ) (start end count : ℕ) → count ≤ length (slice_range xs start end) → slice_range xs (start + count) end ≡ drop count (slice_range xs start end)
later_range xs start end count within =
    let left = end - (start + count) in
    let room : end - start ≡ count + left = omega (arith, within, length-take (end - start) (drop start xs)) in
    sym (ap (λ n. drop count (take n (drop start xs))) room ∙ (drop-take count left (drop start xs) ∙ ap (take left) (drop-drop count start xs)))

pub returns : goal.returns
returns c =
    let within : c.args.count ≤ length (slice_range c.self.inside.bytes.items c.self.inside.start c.self.inside.end) = subst (λ l. c.args.count ≤ length l) (sym c.self.view_is) c.requires in
    later_range c.self.inside.bytes.items c.self.inside.start c.self.inside.end c.args.count within ∙ ap (drop c.args.count) c.self.view_is
