-- The documents of a history: no two have one id, and each has the shard of its calls.
use Rattle.std.proofs.Common.{ℕ, zero, suc, ◌≡◌, ◌⊎◌, inl, inr, List, [], ◌∷◌, length, refl, sym, ap, ◌∙◌, Bool, true, false, Some, slice_get, true≢false}
use Rattle.std.specs.Prelude.{fold, if◌then◌else◌}
use Rattle.std.specs.Cmp.Lexicographic.{bytes_decides}
use Rattle.events.specs.declared.event.Event.{Event}
use Rattle.events.specs.declared.event.Event.TheVariants.{Call, Reply, Lost}
use Rattle.events.specs.Events.{documents_of, is_same, with_document, with_event}
use Rattle.version_pair.proofs.ListLemmas.{none_is_not_some, same_some}

-- ---- one more document

-- the document d of the shard h stands at the end, behind others
record IsNewAt (ds : List (List ℕ × ℕ)) (d : List ℕ) (h k : ℕ) (e : List ℕ × ℕ) : Type 0 where
  pub is : (d, h) ≡ e
  pub last : k ≡ length ds
  pub other : (j : ℕ) (c : List ℕ × ℕ) → slice_get ds j ≡ Some c → c.0 ≡ d → ⊥

-- a document with another id than d
differs : (d : List ℕ) (f c : List ℕ × ℕ) → is_same d f.0 ≡ false → Some f ≡ Some c → c.0 ≡ d → ⊥
differs d f c is at same =
    let one : f.0 ≡ d = ap (λ (x : List ℕ × ℕ). x.0) (same_some f c at) ∙ same in
    true≢false (sym ((bytes_decides d f.0).1 (sym one)) ∙ is)

-- what stands in the list with one more document stood there before, or is the new one
with_at : (ds : List (List ℕ × ℕ)) (d : List ℕ) (h k : ℕ) (e : List ℕ × ℕ) → slice_get (with_document ds d h) k ≡ Some e → (slice_get ds k ≡ Some e) ⊎ IsNewAt ds d h k e
with_at [] d h zero e at = inr (record { is = same_some (d, h) e at; last = refl; other = λ j c bt same. none_is_not_some c bt })
with_at [] d h (suc k) e at = absurd (none_is_not_some e at)
with_at (f ∷ fs) d h k e at = by_test (is_same d f.0) refl k at (λ j bt. with_at fs d h j e bt) where
  others : is_same d f.0 ≡ false → ((j : ℕ) (c : List ℕ × ℕ) → slice_get fs j ≡ Some c → c.0 ≡ d → ⊥) → (j : ℕ) (c : List ℕ × ℕ) → slice_get (f ∷ fs) j ≡ Some c → c.0 ≡ d → ⊥
  others is later zero c bt same = differs d f c is bt same
  others is later (suc j) c bt same = later j c bt same

  by_test : (b : Bool) → is_same d f.0 ≡ b → (k : ℕ) → slice_get (if b then f ∷ fs else f ∷ with_document fs d h) k ≡ Some e
      → ((j : ℕ) → slice_get (with_document fs d h) j ≡ Some e → (slice_get fs j ≡ Some e) ⊎ IsNewAt fs d h j e) → (slice_get (f ∷ fs) k ≡ Some e) ⊎ IsNewAt (f ∷ fs) d h k e
  by_test true is k at later = inl at
  by_test false is zero at later = inl at
  by_test false is (suc k) at later =
      elim (later k at) as (λ _. (slice_get (f ∷ fs) (suc k) ≡ Some e) ⊎ IsNewAt (f ∷ fs) d h (suc k) e)
      [ inl old ↦ inl old | inr new ↦ inr (record { is = new.is; last = ap suc new.last; other = others is new.other }) ]

-- ---- no document twice

-- no two places have one id
abbrev AreApart : List (List ℕ × ℕ) → Type 0
AreApart ds = (i j : ℕ) (a b : List ℕ × ℕ) → slice_get ds i ≡ Some a → slice_get ds j ≡ Some b → a.0 ≡ b.0 → i ≡ j

-- one more document leaves them apart
apart_with : (ds : List (List ℕ × ℕ)) (d : List ℕ) (h : ℕ) → AreApart ds → AreApart (with_document ds d h)
apart_with ds d h apart i j a b at bt same =
    elim (with_at ds d h i a at) as (λ _. i ≡ j) [
      | inl old ↦ elim (with_at ds d h j b bt) as (λ _. i ≡ j) [
        | inl older ↦ apart i j a b old older same
        | inr new ↦ absurd (new.other i a old (same ∙ sym (ap (λ (x : List ℕ × ℕ). x.0) new.is)))
      ]
      | inr new ↦ elim (with_at ds d h j b bt) as (λ _. i ≡ j) [
        | inl old ↦ absurd (new.other j b old (sym same ∙ sym (ap (λ (x : List ℕ × ℕ). x.0) new.is)))
        | inr newer ↦ new.last ∙ sym newer.last
      ]
    ]

-- one more event does too
apart_event : (ds : List (List ℕ × ℕ)) (x : Event) → AreApart ds → AreApart (with_event ds x)
apart_event ds (Call h n d op) apart = apart_with ds d h apart
apart_event ds (Reply n r) apart = apart
apart_event ds (Lost n) apart = apart

-- and all events do
apart_all : (xs : List Event) (ds : List (List ℕ × ℕ)) → AreApart ds → AreApart (fold with_event ds xs)
apart_all [] ds apart = apart
apart_all (x ∷ xs) ds apart = apart_all xs (with_event ds x) (apart_event ds x apart)

-- no two documents of a history have one id
pub documents_apart : (events : List Event) (i j : ℕ) (a b : List ℕ × ℕ) → slice_get (documents_of events) i ≡ Some a → slice_get (documents_of events) j ≡ Some b → a.0 ≡ b.0 → i ≡ j
documents_apart events = apart_all events [] (λ i j a b at bt same. absurd (none_is_not_some a at))
