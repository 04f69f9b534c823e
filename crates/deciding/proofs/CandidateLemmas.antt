-- Calls that are tried as the next write of a document: each that may be performed is represented among them.
use Rattle.std.proofs.Common.{ℕ, zero, suc, ◌≡◌, ◌≢◌, ◌<◌, ◌≤◌, ◌⊎◌, ◌++◌, ◌==◌, ◌&&◌, inl, inr, List, [], ◌∷◌, refl, sym, ap, subst, ◌∙◌, arith, Bool, true, false, cond, true≢false, Option, Some, None, slice_get}
use Rattle.std.specs.Prelude.{is_some, option_map}
use Rattle.std.specs.Option.{option_to_list}
use Rattle.std.proofs.lemmas.Bool.{cases_lt}
use Rattle.version_pair.specs.declared.pair.Pair.{Pair}
use Rattle.version_pair.proofs.ListLemmas.{get_front, none_is_not_some, same_some}
use Rattle.doc_register.specs.declared.op.Op.{Op}
use Rattle.doc_register.specs.declared.op.Op.TheVariants.{Get, Index, Delete, Create}
use Rattle.doc_register.specs.declared.reply.Reply.{Reply}
use Rattle.doc_register.specs.Register.{condition_of, value_of}
use Rattle.deciding.specs.Facts.{Facts}
use Rattle.events.specs.declared.record.Rec.{Rec}
use Rattle.events.specs.Heard.{pair_of}
use Rattle.deciding.specs.declared.groups.Entry.{Entry}
use Rattle.deciding.specs.declared.groups.Groups.{Groups}
use Rattle.deciding.specs.declared.version.FoundNumbers.{FoundNumbers}
use Rattle.deciding.specs.declared.version.FoundNumbers.TheVariants.{Unseen, Several}
use Rattle.deciding.specs.declared.writes.Lost.{Lost}
use Rattle.deciding.specs.declared.writes.Lost.TheVariants as lost
use Rattle.deciding.specs.Reported.{IsFoundWith, IsReportedOf}
use Rattle.deciding.specs.Positions.{version_of}
use Rattle.deciding.specs.Branches.{Branch, position}
use Rattle.deciding.specs.Steps.{AgreesWith, MayHaveTaken, MayPerform, is_conflict, is_hidden, is_lost_delete, is_lost_make, is_owed, is_plain_delete, is_plain_make, is_same_bool, is_unanswered, is_unconditional, moved_at, performed, without}
use Rattle.deciding.specs.aids.Candidates.{AreCandidates, AreIn, AreLostIn, AreOpen, IsNumberOf, IsRepresented, numbers_in}
use Rattle.deciding.specs.aids.Groups.{AreGroupsOf, Has}
use Rattle.deciding.specs.aids.Versions.{AreNumbersFound}
use Rattle.deciding.specs.aids.Writes.{AreKeyed, IsFirst, key_asked, key_given, key_shown, key_of_kind, kind_of, kind_of_op, kind_unanswered, key_unanswered}

-- ---- numbers in lists

pub in_front : (xs ys : List ℕ) → AreIn xs (xs ++ ys)
in_front xs ys n (i, at) = (i, get_front xs ys i n at)

pub in_back : (xs ys : List ℕ) → AreIn ys (xs ++ ys)
in_back [] ys n (i, at) = (i, at)
in_back (x ∷ xs) ys n (i, at) = let rest = in_back xs ys n (i, at) in (suc rest.0, rest.1)

pub entry_in : (entries : List Entry) (e : Entry) → Has entries e → IsNumberOf (numbers_in entries) e.number
entry_in [] e (i, at) = absurd (none_is_not_some e at)
entry_in (x ∷ xs) e (zero, at) = (zero, ap (λ o. option_map (λ (y : Entry). y.number) o) at)
entry_in (x ∷ xs) e (suc i, at) = let rest = entry_in xs e (i, at) in (suc rest.0, rest.1)

pub some_in : (o : Option ℕ) (n : ℕ) → o ≡ Some n → IsNumberOf (option_to_list o) n
some_in None n is = absurd (none_is_not_some n is)
some_in (Some m) n is = (zero, is)

-- a call of which the number is among them represents itself
pub itself : (facts : Facts) (records : List Rec) (event : ℕ) (b : Branch) (j : ℕ) (s : Rec) (q : Pair) (numbers : List ℕ) → IsNumberOf numbers j → MayPerform facts records event b j s q
    → IsRepresented facts records event b j s q numbers
itself facts records event b j s q numbers listed may = record { number = j; call = s; listed = listed; may = may; same = refl }

pub represented_in : (facts : Facts) (records : List Rec) (event : ℕ) (b : Branch) (j : ℕ) (s : Rec) (q : Pair) (old new : List ℕ) → AreIn old new
    → IsRepresented facts records event b j s q old → IsRepresented facts records event b j s q new
represented_in facts records event b j s q old new more r = record { number = r.number; call = r.call; listed = more r.number r.listed; may = r.may; same = r.same }

-- ---- calls of one kind

-- what a call of a kind is
pub record IsOfKind (r : Rec) (kind : Lost) : Type 0 where
  pub unanswered : r.heard ≡ None
  pub of_op : kind_of_op r.op ≡ Some kind

pub of_kind : (r : Rec) (kind : Lost) → kind_of r ≡ Some kind → IsOfKind r kind
of_kind r kind is = by_heard r.heard refl where
  by_heard : (o : Option (ℕ × Reply)) → r.heard ≡ o → IsOfKind r kind
  by_heard None heard = record { unanswered = heard; of_op = sym (ap (kind_unanswered r.op) heard) ∙ is }
  by_heard (Some h) heard = absurd (none_is_not_some kind (sym (ap (kind_unanswered r.op) heard) ∙ is))

-- a call of a kind has no condition, and is no get
no_condition : (op : Op) (kind : Lost) (c : Pair) → kind_of_op op ≡ Some kind → condition_of op ≡ Some c → ⊥
no_condition Get kind c is asks = none_is_not_some c asks
no_condition (Index k None) kind c is asks = none_is_not_some c asks
no_condition (Index k (Some d)) kind c is asks = none_is_not_some kind is
no_condition (Delete None) kind c is asks = none_is_not_some c asks
no_condition (Delete (Some d)) kind c is asks = none_is_not_some kind is
no_condition (Create k) kind c is asks = none_is_not_some c asks

never_get : (op : Op) (kind : Lost) → kind_of_op op ≡ Some kind → op ≢ Get
never_get op kind is get = none_is_not_some kind (sym (ap kind_of_op get) ∙ is)

-- two of one kind both give a number, or neither
same_effect : (a b : Op) (kind : Lost) → kind_of_op a ≡ Some kind → kind_of_op b ≡ Some kind → is_some (value_of a) ≡ is_some (value_of b)
same_effect a b kind one two = gives a kind one ∙ sym (gives b kind two) where
  given : Lost → Bool
  given lost.Delete = false
  given lost.Index = true
  given lost.Create = true

  gives : (op : Op) (k : Lost) → kind_of_op op ≡ Some k → is_some (value_of op) ≡ given k
  gives Get k is = absurd (none_is_not_some k is)
  gives (Index n None) k is = ap given (same_some lost.Index k is)
  gives (Index n (Some c)) k is = absurd (none_is_not_some k is)
  gives (Delete None) k is = ap given (same_some lost.Delete k is)
  gives (Delete (Some c)) k is = absurd (none_is_not_some k is)
  gives (Create n) k is = ap given (same_some lost.Create k is)

-- what a call of a kind is without a reply and without a condition
abbrev is_delete_kind : Lost → Bool
is_delete_kind lost.Delete = true
is_delete_kind lost.Index = false
is_delete_kind lost.Create = false

abbrev is_make_kind : Lost → Bool
is_make_kind lost.Delete = false
is_make_kind lost.Index = true
is_make_kind lost.Create = true

delete_of_op : (op : Op) (kind : Lost) → kind_of_op op ≡ Some kind → is_plain_delete op ≡ is_delete_kind kind
delete_of_op Get kind is = absurd (none_is_not_some kind is)
delete_of_op (Index k None) kind is = ap is_delete_kind (same_some lost.Index kind is)
delete_of_op (Index k (Some c)) kind is = absurd (none_is_not_some kind is)
delete_of_op (Delete None) kind is = ap is_delete_kind (same_some lost.Delete kind is)
delete_of_op (Delete (Some c)) kind is = absurd (none_is_not_some kind is)
delete_of_op (Create k) kind is = ap is_delete_kind (same_some lost.Create kind is)

make_of_op : (op : Op) (kind : Lost) → kind_of_op op ≡ Some kind → is_plain_make op ≡ is_make_kind kind
make_of_op Get kind is = absurd (none_is_not_some kind is)
make_of_op (Index k None) kind is = ap is_make_kind (same_some lost.Index kind is)
make_of_op (Index k (Some c)) kind is = absurd (none_is_not_some kind is)
make_of_op (Delete None) kind is = ap is_make_kind (same_some lost.Delete kind is)
make_of_op (Delete (Some c)) kind is = absurd (none_is_not_some kind is)
make_of_op (Create k) kind is = ap is_make_kind (same_some lost.Create kind is)

delete_of_kind : (r : Rec) (kind : Lost) → IsOfKind r kind → is_lost_delete r ≡ is_delete_kind kind
delete_of_kind r kind is = ap (λ h. is_unanswered h && is_plain_delete r.op) is.unanswered ∙ delete_of_op r.op kind is.of_op

make_of_kind : (r : Rec) (kind : Lost) → IsOfKind r kind → is_lost_make r ≡ is_make_kind kind
make_of_kind r kind is = ap (λ h. is_unanswered h && is_plain_make r.op) is.unanswered ∙ make_of_op r.op kind is.of_op

-- if one is a create, all of its kind are
same_create : (a b : Op) (kind : Lost) (k : ℕ) → kind_of_op a ≡ Some kind → kind_of_op b ≡ Some kind → a ≡ Create k → (n : ℕ) × (b ≡ Create n)
same_create a b kind k one two is = by_op b (two ∙ (sym one ∙ ap kind_of_op is)) where
  by_op : (op : Op) → kind_of_op op ≡ Some lost.Create → (n : ℕ) × (op ≡ Create n)
  by_op Get never = absurd (none_is_not_some lost.Create never)
  by_op (Index n None) never = let impossible : lost.Index ≡ lost.Create = same_some lost.Index lost.Create never in absurd (cc)
  by_op (Index n (Some c)) never = absurd (none_is_not_some lost.Create never)
  by_op (Delete None) never = let impossible : lost.Delete ≡ lost.Create = same_some lost.Delete lost.Create never in absurd (cc)
  by_op (Delete (Some c)) never = absurd (none_is_not_some lost.Create never)
  by_op (Create n) is = (n, refl)

-- a call without a reply shows no pair
silent_takes : (facts : Facts) (records : List Rec) (s : Rec) (q : Pair) → s.heard ≡ None → (pair_of s.heard ≡ Some q) ⊎ MayHaveTaken facts.conflicts records s q → MayHaveTaken facts.conflicts records s q
silent_takes facts records s q none (inl shown) = absurd (none_is_not_some q (sym (ap pair_of none) ∙ shown))
silent_takes facts records s q none (inr may) = may

-- An earlier call of the same kind may be performed wherever a later one may, if it gives the number that was found, and
-- has the same branch behind it.
pub represents : (facts : Facts) (records : List Rec) (event : ℕ) (b : Branch) (j n : ℕ) (s first : Rec) (q : Pair) (kind : Lost) (numbers : List ℕ)
    → kind_of s ≡ Some kind → kind_of first ≡ Some kind → slice_get records n ≡ Some first → first.call_at ≤ s.call_at
    → ((k : ℕ) → IsFoundWith records q k → value_of first.op ≡ Some k) → IsNumberOf numbers n → MayPerform facts records event b j s q
    → IsRepresented facts records event b j s q numbers
represents facts records event b j n s first q kind numbers is too at earlier found listed may = record {
  number = n;
  call = first;
  listed = listed;
  may = record {
    at = at;
    write = never_get first.op kind other.of_op;
    called = (let before : s.call_at < event = may.called in omega (arith, before, earlier));
    pending = λ y reply heard. absurd (none_is_not_some (y, reply) (sym other.unanswered ∙ heard));
    takes = inr (record {
      silent = inl other.unanswered;
      unreported = taken.unreported;
      gives = λ known. same_effect first.op s.op kind other.of_op own.of_op ∙ taken.gives known;
    });
    found = found;
    own = may.own;
    rises = may.rises;
    before = may.before;
    passed = may.passed;
    condition = λ c asks. absurd (no_condition first.op kind c other.of_op asks);
    missing = λ k create. (let c = same_create first.op s.op kind k other.of_op own.of_op create in may.missing c.0 c.1);
    agrees = subst (AgreesWith b.exists) (sym other.unanswered) tt;
    unspent = λ hides. absurd (true≢false (sym hides ∙ ap is_conflict other.unanswered));
    deletes = λ lost. may.deletes (sym same_delete ∙ lost);
    makes = λ lost. may.makes (sym same_make ∙ lost);
  };
  same = same_branch;
} where
  own : IsOfKind s kind
  own = of_kind s kind is

  other : IsOfKind first kind
  other = of_kind first kind too

  taken : MayHaveTaken facts.conflicts records s q
  taken = silent_takes facts records s q own.unanswered may.takes

  exists : Bool
  exists = is_some (value_of s.op)

  same_delete : is_lost_delete first ≡ is_lost_delete s
  same_delete = delete_of_kind first kind other ∙ sym (delete_of_kind s kind own)

  same_make : is_lost_make first ≡ is_lost_make s
  same_make = make_of_kind first kind other ∙ sym (make_of_kind s kind own)

  behind : Bool → Option (ℕ × Reply) → ℕ → Bool → Bool → Bool → Branch
  behind exists heard i owes deletes makes = record {
    least = Some q;
    exists = exists;
    flipped_at = moved_at (is_same_bool b.exists exists) b.flipped_at event;
    arrived_at = moved_at (position records b.least == position records (Some q)) b.arrived_at event;
    owed = cond (is_conflict heard) (without i b.owed) b.owed;
    spent = cond owes (i ∷ b.spent) b.spent;
    deletes = cond deletes (suc b.deletes) b.deletes;
    makes = cond makes (suc b.makes) b.makes;
  }

  unowed : (r : Rec) → r.heard ≡ None → is_owed r ≡ false
  unowed r none = ap (λ h. is_conflict h && is_unconditional r.op) none

  same_branch : performed records event b n first q ≡ performed records event b j s q
  same_branch =
      ap (λ e. behind e first.heard n (is_owed first) (is_lost_delete first) (is_lost_make first)) (same_effect first.op s.op kind other.of_op own.of_op)
      ∙ (ap (λ d. behind exists first.heard n (is_owed first) d (is_lost_make first)) same_delete
      ∙ (ap (behind exists first.heard n (is_owed first) (is_lost_delete s)) same_make
      ∙ (ap (λ h. behind exists h n (is_owed first) (is_lost_delete s) (is_lost_make s)) other.unanswered
      ∙ (ap (λ o. behind exists None n o (is_lost_delete s) (is_lost_make s)) (unowed first other.unanswered)
      ∙ sym (ap (λ h. behind exists h j (is_owed s) (is_lost_delete s) (is_lost_make s)) own.unanswered
      ∙ ap (λ o. behind exists None j o (is_lost_delete s) (is_lost_make s)) (unowed s own.unanswered))))))

-- ---- the writes without a reply and without a condition

-- the calls are in the order of the records
abbrev pub AreOrdered : List Rec → Type 0
AreOrdered records = (i j : ℕ) (r s : Rec) → slice_get records i ≡ Some r → slice_get records j ≡ Some s → i < j → r.call_at < s.call_at

not_later : (records : List Rec) (n j : ℕ) (first s : Rec) → AreOrdered records → slice_get records n ≡ Some first → slice_get records j ≡ Some s → n ≤ j → first.call_at ≤ s.call_at
not_later records n j first s ordered at bt within = by_order (cases_lt n j) where
  by_order : ((n < j) ⊎ (j ≤ n)) → first.call_at ≤ s.call_at
  by_order (inl before) = let less : first.call_at < s.call_at = ordered n j first s at bt before in omega arith
  by_order (inr not) =
      let same : first ≡ s = same_some first s (sym at ∙ (ap (slice_get records) (omega (arith, within, not)) ∙ bt)) in
      let one : first.call_at ≡ s.call_at = ap (λ (r : Rec). r.call_at) same in
      omega (arith, one)

-- the first call of a kind represents each of it, if it gives the number that was found
by_first : (facts : Facts) (records : List Rec) (event : ℕ) (b : Branch) (j : ℕ) (s : Rec) (q : Pair) (kind : Lost) (numbers : List ℕ) (o : Option ℕ) → AreOrdered records
    → IsFirst records kind o → ((n : ℕ) → o ≡ Some n → IsNumberOf numbers n) → kind_of s ≡ Some kind
    → ((first : Rec) → kind_of first ≡ Some kind → (k : ℕ) → IsFoundWith records q k → value_of first.op ≡ Some k) → MayPerform facts records event b j s q
    → IsRepresented facts records event b j s q numbers
by_first facts records event b j s q kind numbers None ordered none listed is found may = absurd (none j s may.at is)
by_first facts records event b j s q kind numbers (Some n) ordered (first, at, too, least) listed is found may =
    represents facts records event b j n s first q kind numbers is too at (not_later records n j first s ordered at may.at (least j s may.at is)) (found first too) (listed n refl) may

-- a delete gives no number, an index and a create give one
no_number : (op : Op) → kind_of_op op ≡ Some lost.Delete → value_of op ≡ None
no_number Get is = refl
no_number (Index k None) is = let impossible : lost.Index ≡ lost.Delete = same_some lost.Index lost.Delete is in absurd (cc)
no_number (Index k (Some c)) is = absurd (none_is_not_some lost.Delete is)
no_number (Delete c) is = refl
no_number (Create k) is = let impossible : lost.Create ≡ lost.Delete = same_some lost.Create lost.Delete is in absurd (cc)

number_of_index : (op : Op) → kind_of_op op ≡ Some lost.Index → (k : ℕ) × (value_of op ≡ Some k)
number_of_index Get is = absurd (none_is_not_some lost.Index is)
number_of_index (Index k c) is = (k, refl)
number_of_index (Delete None) is = let impossible : lost.Delete ≡ lost.Index = same_some lost.Delete lost.Index is in absurd (cc)
number_of_index (Delete (Some c)) is = absurd (none_is_not_some lost.Index is)
number_of_index (Create k) is = (k, refl)

number_of_create : (op : Op) → kind_of_op op ≡ Some lost.Create → (k : ℕ) × (value_of op ≡ Some k)
number_of_create Get is = absurd (none_is_not_some lost.Create is)
number_of_create (Index k c) is = (k, refl)
number_of_create (Delete None) is = let impossible : lost.Delete ≡ lost.Create = same_some lost.Delete lost.Create is in absurd (cc)
number_of_create (Delete (Some c)) is = absurd (none_is_not_some lost.Create is)
number_of_create (Create k) is = (k, refl)

-- if deletes are represented, each is
deletes_in : (facts : Facts) (records : List Rec) (event : ℕ) (b : Branch) (j : ℕ) (s : Rec) (q : Pair) (numbers : List ℕ) (o : Option ℕ) → AreOrdered records
    → IsFirst records lost.Delete o → ((n : ℕ) → o ≡ Some n → IsNumberOf numbers n) → kind_of s ≡ Some lost.Delete → MayPerform facts records event b j s q
    → IsRepresented facts records event b j s q numbers
deletes_in facts records event b j s q numbers o ordered first listed is may =
    by_first facts records event b j s q lost.Delete numbers o ordered first listed is
    (λ other too k found. absurd (none_is_not_some k (sym (no_number s.op (of_kind s lost.Delete is).of_op) ∙ may.found k found))) may

-- what the list has of the writes without a reply and without a condition, if gets found one number with the pair
pub record HasNumbered (records : List Rec) (delete : Option ℕ) (k : ℕ) (numbers : List ℕ) : Type 0 where
  pub deletes : (n : ℕ) → delete ≡ Some n → IsNumberOf numbers n
  pub numbered : (i : ℕ) (r : Rec) → slice_get records i ≡ Some r → key_given r ≡ Some k → IsNumberOf numbers i

pub lost_by_number : (records : List Rec) (q : Pair) (delete : Option ℕ) (k : ℕ) (numbers : List ℕ) → AreOrdered records → IsFirst records lost.Delete delete → IsFoundWith records q k
    → HasNumbered records delete k numbers → AreLostIn records q numbers
lost_by_number records q delete k numbers ordered first found has facts event b j s kind is may = by_kind kind is where
  given : (kind : Lost) → kind_of s ≡ Some kind → IsRepresented facts records event b j s q numbers
  given kind is =
      let value = may.found k found in
      let key : key_given s ≡ Some k = ap (λ o. key_of_kind o (value_of s.op)) is ∙ value in
      itself facts records event b j s q numbers (has.numbered j s may.at key) may

  by_kind : (kind : Lost) → kind_of s ≡ Some kind → IsRepresented facts records event b j s q numbers
  by_kind lost.Delete is = deletes_in facts records event b j s q numbers delete ordered first has.deletes is may
  by_kind lost.Index is = given lost.Index is
  by_kind lost.Create is = given lost.Create is

-- what it has otherwise
pub record HasFirsts (delete index create : Option ℕ) (numbers : List ℕ) : Type 0 where
  pub deletes : (n : ℕ) → delete ≡ Some n → IsNumberOf numbers n
  pub indexes : (n : ℕ) → index ≡ Some n → IsNumberOf numbers n
  pub creates : (n : ℕ) → create ≡ Some n → IsNumberOf numbers n

-- gets found no number with the pair, or different ones
abbrev pub IsNotOne : List Rec → Pair → Type 0
IsNotOne records q = ((k : ℕ) → ¬ IsFoundWith records q k) ⊎ ((n : ℕ) → ¬ ((k : ℕ) → IsFoundWith records q k → k ≡ n))

pub lost_by_first : (records : List Rec) (q : Pair) (delete index create : Option ℕ) (numbers : List ℕ) → AreOrdered records → IsFirst records lost.Delete delete → IsFirst records lost.Index index
    → IsFirst records lost.Create create → IsNotOne records q → HasFirsts delete index create numbers → AreLostIn records q numbers
lost_by_first records q delete index create numbers ordered first_delete first_index first_create found has facts event b j s kind is may = by_kind kind is found where
  several : (kind : Lost) → kind_of s ≡ Some kind → (k : ℕ) → value_of s.op ≡ Some k → ((n : ℕ) → ¬ ((k : ℕ) → IsFoundWith records q k → k ≡ n)) → ⊥
  several kind is n value apart =
      apart n (λ k one. same_some k n (sym (may.found k one) ∙ value))

  by_kind : (kind : Lost) → kind_of s ≡ Some kind → IsNotOne records q → IsRepresented facts records event b j s q numbers
  by_kind lost.Delete is f = deletes_in facts records event b j s q numbers delete ordered first_delete has.deletes is may
  by_kind lost.Index is (inl none) = by_first facts records event b j s q lost.Index numbers index ordered first_index has.indexes is (λ other too k one. absurd (none k one)) may
  by_kind lost.Index is (inr apart) = let n = number_of_index s.op (of_kind s lost.Index is).of_op in absurd (several lost.Index is n.0 n.1 apart)
  by_kind lost.Create is (inl none) = by_first facts records event b j s q lost.Create numbers create ordered first_create has.creates is (λ other too k one. absurd (none k one)) may
  by_kind lost.Create is (inr apart) = let n = number_of_create s.op (of_kind s lost.Create is).of_op in absurd (several lost.Create is n.0 n.1 apart)

-- ---- what was added

-- the number of a call with a key is among those of the entries with the key
pub keyed_in : (key_of : Rec → Option ℕ) (records : List Rec) (groups : Groups) (key : ℕ) (group : List Entry) → AreKeyed key_of records groups
    → ((list : List Entry) → AreGroupsOf list groups → (i : ℕ) (e : Entry) → slice_get list i ≡ Some e → e.key ≡ key → Has group e)
    → (i : ℕ) (r : Rec) → slice_get records i ≡ Some r → key_of r ≡ Some key → IsNumberOf (numbers_in group) i
keyed_in key_of records groups key group (list, are, each) all i r at is =
    let e = each i r key at is in
    entry_in group (record { key = key; number = i }) (all list are e.0 (record { key = key; number = i }) e.1 refl)

-- a list with two others behind it
pub in_first : (old one two new : List ℕ) → new ≡ (old ++ one) ++ two → AreIn old new
in_first old one two new is n has = subst (λ xs. IsNumberOf xs n) (sym is) (in_front (old ++ one) two n (in_front old one n has))

pub in_second : (old one two new : List ℕ) → new ≡ (old ++ one) ++ two → AreIn one new
in_second old one two new is n has = subst (λ xs. IsNumberOf xs n) (sym is) (in_front (old ++ one) two n (in_back old one n has))

pub in_third : (old one two new : List ℕ) → new ≡ (old ++ one) ++ two → AreIn two new
in_third old one two new is n has = subst (λ xs. IsNumberOf xs n) (sym is) (in_back (old ++ one) two n has)

-- gets found no number, or different ones
pub not_one : (records : List Rec) (q : Pair) (f : FoundNumbers) → AreNumbersFound records q f → ((f ≡ Unseen) ⊎ (f ≡ Several)) → IsNotOne records q
not_one records q f found (inl is) = inl (subst (AreNumbersFound records q) is found)
not_one records q f found (inr is) = inr (subst (AreNumbersFound records q) is found)

-- ---- all candidates

-- if a reply shows which call took the pair, that call is the only one that may be performed with it
pub are_shown : (facts : Facts) (records : List Rec) (event : ℕ) (b : Branch) (q : Pair) (numbers : List ℕ) → IsReportedOf records q
    → ((i : ℕ) (r : Rec) → slice_get records i ≡ Some r → key_shown records r ≡ Some (version_of records q) → IsNumberOf numbers i)
    → AreCandidates facts records event b q numbers
are_shown facts records event b q numbers reported shown j s may = by_reply may.takes where
  by_reply : (pair_of s.heard ≡ Some q) ⊎ MayHaveTaken facts.conflicts records s q → IsRepresented facts records event b j s q numbers
  by_reply (inl shows) = itself facts records event b j s q numbers (shown j s may.at (ap (option_map (version_of records)) shows)) may
  by_reply (inr taken) = absurd (taken.unreported reported)

-- what a list of candidates has if no reply shows which call took the pair
pub record HasAll (facts : Facts) (records : List Rec) (event : ℕ) (b : Branch) (q : Pair) (numbers : List ℕ) : Type 0 where
  pub asked : (i : ℕ) (r : Rec) → slice_get records i ≡ Some r → key_asked records r ≡ Some (position records b.least) → IsNumberOf numbers i
  pub lost : AreLostIn records q numbers
  pub open_ones : AreOpen facts.conflicts records event numbers

pub are_candidates : (facts : Facts) (records : List Rec) (event : ℕ) (b : Branch) (q : Pair) (numbers : List ℕ) → (¬ IsReportedOf records q)
    → HasAll facts records event b q numbers → AreCandidates facts records event b q numbers
are_candidates facts records event b q numbers unreported has j s may = by_reply may.takes where
  by_condition : s.heard ≡ None → (o : Option Pair) → condition_of s.op ≡ o → IsRepresented facts records event b j s q numbers
  by_condition none (Some c) asks =
      let met = may.condition c asks in
      let key : key_asked records s ≡ Some (position records b.least) =
      ap (key_unanswered records (condition_of s.op)) none ∙ (ap (λ o. option_map (λ (d : Pair). position records (Some d)) o) asks ∙ ap (λ n. Some n) (sym met.1)) in
      itself facts records event b j s q numbers (has.asked j s may.at key) may
  by_condition none None asks = by_op s.op refl asks where
    lost_of : (kind : Lost) → kind_of_op s.op ≡ Some kind → IsRepresented facts records event b j s q numbers
    lost_of kind is = has.lost facts event b j s kind (ap (kind_unanswered s.op) none ∙ is) may

    by_op : (op : Op) → s.op ≡ op → condition_of op ≡ None → IsRepresented facts records event b j s q numbers
    by_op Get is plain = absurd (may.write is)
    by_op (Index k None) is plain = lost_of lost.Index (ap kind_of_op is)
    by_op (Index k (Some c)) is plain = absurd (none_is_not_some c (sym plain))
    by_op (Delete None) is plain = lost_of lost.Delete (ap kind_of_op is)
    by_op (Delete (Some c)) is plain = absurd (none_is_not_some c (sym plain))
    by_op (Create k) is plain = lost_of lost.Create (ap kind_of_op is)

  by_heard : is_hidden facts.conflicts s.heard ≡ true → (o : Option (ℕ × Reply)) → s.heard ≡ o → IsRepresented facts records event b j s q numbers
  by_heard hides None heard = by_condition heard (condition_of s.op) refl
  by_heard hides (Some (y, reply)) heard =
      itself facts records event b j s q numbers (has.open_ones j s y reply may.at heard hides may.called (may.pending y reply heard)) may

  by_silence : ((s.heard ≡ None) ⊎ (is_hidden facts.conflicts s.heard ≡ true)) → IsRepresented facts records event b j s q numbers
  by_silence (inl none) = by_condition none (condition_of s.op) refl
  by_silence (inr hides) = by_heard hides s.heard refl

  by_reply : (pair_of s.heard ≡ Some q) ⊎ MayHaveTaken facts.conflicts records s q → IsRepresented facts records event b j s q numbers
  by_reply (inl shows) = absurd (unreported (s, (j, may.at), shows))
  by_reply (inr taken) = by_silence taken.silent
