-- Where a call of the gathered ones stands: in the part of its document, which some entry is of.
use Rattle.std.proofs.Common.{ℕ, ◌≡◌, List, sym, true, Some, slice_get}
use Rattle.std.specs.Cmp.Lexicographic.{bytes_decides}
use Rattle.doc_register.specs.declared.state.Conflicts.{Conflicts}
use Rattle.events.specs.declared.event.Event.{Event}
use Rattle.events.specs.Order.{IsOfCall}
use Rattle.places.specs.Documents.{DocPlaces}
use Rattle.compose.proofs.Filtering.{rank, rank_at}
use Rattle.compose.proofs.Gathering.{AreGathered, IsPartOf}
use Rattle.compose.proofs.Points.{Pointed, is_of, part, placed_at}

-- a call of the document passes
pub passes : (d : List ℕ) (k : Pointed) → k.placed.entry.doc ≡ d → is_of d k ≡ true
passes d k same = (bytes_decides k.placed.entry.doc d).1 same

-- the call at the place is of an entry's document, and stands in its part
pub record IsListed (conflicts : Conflicts) (events : List Event) (entries : List DocPlaces) (ks : List Pointed) (i : ℕ) (k : Pointed) : Type 0 where
  pub number : ℕ
  pub entry : DocPlaces
  pub entered : slice_get entries number ≡ Some entry
  pub doc : k.placed.entry.doc ≡ entry.doc
  pub own : IsPartOf conflicts events entry (part entry.doc ks)
  pub stands : slice_get (part entry.doc ks) (rank (is_of entry.doc) ks i) ≡ Some k
  pub call : IsOfCall events k.placed

-- each of the gathered calls is so
pub listed : (conflicts : Conflicts) (events : List Event) (entries : List DocPlaces) (ks : List Pointed) → AreGathered conflicts events entries ks → (i : ℕ) (k : Pointed) → slice_get ks i ≡ Some k
    → IsListed conflicts events entries ks i k
listed conflicts events entries ks all i k at =
    let e = all.entered i k at in
    let own = all.parts e.0 e.1 e.2 in
    let r = rank (is_of e.1.doc) ks i in
    let stands : slice_get (part e.1.doc ks) r ≡ Some k = rank_at (is_of e.1.doc) ks i k at (passes e.1.doc k (sym e.3)) in
    record {
      number = e.0;
      entry = e.1;
      entered = e.2;
      doc = sym e.3;
      own = own;
      stands = stands;
      call = (own.explains.calls r k.placed (placed_at (part e.1.doc ks) r k stands)).0;
    }
