-- Writes without a reply and without a condition, before a place of an order that explains a document.
use Rattle.std.proofs.Common.{ℕ, suc, ◌≡◌, ◌<◌, ◌≤◌, refl, sym, ◌∙◌, arith, Bool, true, false, cond, length}
use Rattle.std.proofs.lemmas.Bool.{and_from, and_parts, false_from_ne_true, lt-ltb, ltb-true}
use Rattle.std.proofs.lemmas.Option.{slice_get_within}
use Rattle.version_pair.proofs.ListLemmas.{get_within}
use Rattle.events.specs.declared.record.Rec.{Rec}
use Rattle.events.specs.Order.{Placed}
use Rattle.deciding.specs.Branches.{Branch}
use Rattle.deciding.specs.Steps.{count_of, is_made_before}
use Rattle.deciding.proofs.FittingBranches.{Fits, is_kind_before}
use Rattle.deciding.proofs.LostCounts.{AreToo, count_more, count_within, made_from}
use Rattle.deciding.proofs.OrderedSteps.{Explained, IsRecordOf, of_record, place_found, place_in, place_is, recs}

-- a record of a kind before a place
record IsBefore (x : Explained) (is : Rec → Bool) (z : ℕ) (r : Rec) : Type 0 where
  kind : is r ≡ true
  first : place_in x.order r.no < z
  there : place_in x.order r.no < length x.order

before_parts : (x : Explained) (is : Rec → Bool) (z : ℕ) (r : Rec) → is_kind_before x is z r ≡ true → IsBefore x is z r
before_parts x is z r before =
    let one = and_parts (is r) _ before in
    let two = and_parts _ _ one.1 in
    record { kind = one.0; first = ltb-true (place_in x.order r.no) z two.0; there = ltb-true (place_in x.order r.no) (length x.order) two.1 }

before_from : (x : Explained) (is : Rec → Bool) (z : ℕ) (r : Rec) → is r ≡ true → place_in x.order r.no < z → place_in x.order r.no < length x.order → is_kind_before x is z r ≡ true
before_from x is z r kind first there =
    and_from (is r) _ kind (and_from _ _ (lt-ltb (place_in x.order r.no) z first) (lt-ltb (place_in x.order r.no) (length x.order) there))

-- what stands before a place stands before the next one too
later : (x : Explained) (is : Rec → Bool) (z : ℕ) → AreToo (is_kind_before x is z) (is_kind_before x is (suc z)) (recs x)
later x is z i r at before =
    let b = before_parts x is z r before in
    let first : place_in x.order r.no < z = b.first in
    before_from x is (suc z) r b.kind (omega (arith, first)) b.there

pub kinds_later : (x : Explained) (is : Rec → Bool) (z : ℕ) → count_of (is_kind_before x is z) (recs x) ≤ count_of (is_kind_before x is (suc z)) (recs x)
kinds_later x is z = count_within (is_kind_before x is z) (is_kind_before x is (suc z)) (recs x) (later x is z)

-- a record stands at its place alone
place_of_record : (x : Explained) (z : ℕ) (p : Placed) (w : Rec) → IsRecordOf x z p w → place_in x.order w.no ≡ z
place_of_record x z p w of =
    let q = place_found x.order w.no z p of.entry.at of.number in
    x.explains.is_order.once (place_in x.order w.no) z q.0 p q.1 of.entry.at (q.2 ∙ sym of.number)

not_before : (x : Explained) (is : Rec → Bool) (z : ℕ) (p : Placed) (w : Rec) → IsRecordOf x z p w → is_kind_before x is z w ≡ false
not_before x is z p w of =
    false_from_ne_true (is_kind_before x is z w)
    (λ before. (let first : place_in x.order w.no < z = (before_parts x is z w before).first in let here : place_in x.order w.no ≡ z = place_of_record x z p w of in omega (arith, first, here)))

-- before the next place is one more, if one stands at the place
kinds_more : (x : Explained) (is : Rec → Bool) (z : ℕ) (p : Placed) (w : Rec) → IsRecordOf x z p w → is w ≡ true
    → count_of (is_kind_before x is z) (recs x) < count_of (is_kind_before x is (suc z)) (recs x)
kinds_more x is z p w of kind =
    let here : place_in x.order w.no ≡ z = place_of_record x z p w of in
    let inside : z < length x.order = slice_get_within x.order z p of.entry.at in
    count_more (is_kind_before x is z) (is_kind_before x is (suc z)) (recs x) of.listed.0 w of.listed.1 (not_before x is z p w of)
    (before_from x is (suc z) w kind (omega (arith, here)) (omega (arith, here, inside))) (later x is z)

pub kinds_step : (x : Explained) (is : Rec → Bool) (z : ℕ) (p : Placed) (w : Rec) (d : ℕ) → IsRecordOf x z p w → d ≤ count_of (is_kind_before x is z) (recs x)
    → cond (is w) (suc d) d ≤ count_of (is_kind_before x is (suc z)) (recs x)
kinds_step x is z p w d of few = by_kind (is w) refl where
  by_kind : (c : Bool) → is w ≡ c → cond c (suc d) d ≤ count_of (is_kind_before x is (suc z)) (recs x)
  by_kind true kind = let more = kinds_more x is z p w of kind in omega (arith, few, more)
  by_kind false kind = let more = kinds_later x is z in omega (arith, few, more)

-- what stands before the place was made before the event, and one that stands at the place too
pub kinds_made : (x : Explained) (event z : ℕ) (b : Branch) (is : Rec → Bool) (p : Placed) (w : Rec) → Fits x event z b → IsRecordOf x z p w → is w ≡ true → w.call_at < event
    → count_of (is_kind_before x is z) (recs x) < count_of (is_made_before is event) (recs x)
kinds_made x event z b is p w fits of kind called =
    count_more (is_kind_before x is z) (is_made_before is event) (recs x) of.listed.0 w of.listed.1 (not_before x is z p w of) (made_from is event w kind called) made where
      made : AreToo (is_kind_before x is z) (is_made_before is event) (recs x)
      made i r at before =
          let v = before_parts x is z r before in
          let there = get_within x.order (place_in x.order r.no) v.there in
          let own = of_record x (place_in x.order r.no) there.0 r there.1 (i, at) (place_is x.order r.no there.0 there.1) in
          made_from is event r v.kind (fits.early (place_in x.order r.no) there.0 r own v.first)
