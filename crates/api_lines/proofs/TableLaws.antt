-- The reply table by the fields of a body is the reply table, and it says one reply at most.
use Rattle.std.proofs.Common.{ℕ, ◌≡◌, ◌≢◌, List, refl, sym, ap, subst, ◌∙◌, Bool, true, false, Option, Some, None, option_map, codes, ◌↔◌}
use Rattle.std.specs.Prelude.{◌==◌, ◌&&◌, if◌then◌else◌, not, option_and_then}
use Rattle.std.specs.Str.{bytes_eq}
use Rattle.std.proofs.lemmas.Bool.{and_from, and_parts, eq-eqb, eqb-true}
use Rattle.std.proofs.lemmas.Option.{none-some, same_Some}
use Rattle.std.proofs.lemmas.Slice.Eq.{bytes_eq-Decides}
use Rattle.version_pair.specs.declared.pair.Pair.{Pair}
use Rattle.doc_register.specs.declared.op.Op.{Op}
use Rattle.doc_register.specs.declared.op.Op.TheVariants.{Get, Index, Delete, Create}
use Rattle.doc_register.specs.declared.reply.Reply.{Reply as Answer}
use Rattle.doc_register.specs.declared.reply.Reply.TheVariants.{Indexed, Deleted, Found, Missing, Conflict}
use Rattle.serde_json.specs.Data.{Data}
use Rattle.serde_json.specs.Find.{get}
use Rattle.api_lines.specs.Fields.{body_values, inner_field}
use Rattle.api_lines.specs.Json.{FieldValue, absent, whole, not_whole, text, truth, other, field, field_value}
use Rattle.api_lines.specs.Kinds.{is_other_text, is_text, is_truth}
use Rattle.api_lines.specs.ReplyTable.{CarriesPair, IsHeard, IsStranger, Reports, ReportsConflict, ReportsFound, ReportsMissing, ReportsWrite, carried_pair, conflicted, found_with, got, heard, pair_of_fields, reply_or_unknown, reported_reply}
use Rattle.api_lines.specs.declared.reply_table.Heard.{Heard}
use Rattle.api_lines.specs.declared.reply_table.Heard.TheVariants.{Reply, Unknown, Stranger}
use Rattle.api_lines.proofs.PairLemmas.{pair_of-numbers, pair_of-some}

-- ---- fields

pub text_is : (t : List ℕ) (v : FieldValue) → is_text t v ≡ true → v ≡ text t
text_is t absent h = cc
text_is t (whole n) h = cc
text_is t not_whole h = cc
text_is t (text found) h = ap text ((bytes_eq-Decides found t).0 h)
text_is t (truth b) h = cc
text_is t other h = cc

pub is_text-same : (t : List ℕ) (v : FieldValue) → v ≡ text t → is_text t v ≡ true
is_text-same t v is = ap (is_text t) is ∙ (bytes_eq-Decides t t).1 refl

pub truth_is : (b : Bool) (v : FieldValue) → is_truth b v ≡ true → v ≡ truth b
truth_is b absent h = cc
truth_is b (whole n) h = cc
truth_is b not_whole h = cc
truth_is b (text t) h = cc
truth_is true (truth true) h = refl
truth_is true (truth false) h = cc
truth_is false (truth true) h = cc
truth_is false (truth false) h = refl
truth_is b other h = cc

-- a field of a field that is there
inner_is : (outer key : List ℕ) (v : Data) (x : FieldValue) → (absent ≡ x → ⊥) → inner_field outer key v ≡ x
    → (e : Data) × (get outer v ≡ Some e) × (field key e ≡ x)
inner_is outer key v x there is = by_found (get outer v) refl is where
  by_found : (o : Option Data) → get outer v ≡ o → field_value (option_and_then (get key) o) ≡ x → (e : Data) × (get outer v ≡ Some e) × (field key e ≡ x)
  by_found None at has = absurd (there has)
  by_found (Some e) at has = (e, at, has)

pub inner_has : (outer key : List ℕ) (v e : Data) (x : FieldValue) → get outer v ≡ Some e → field key e ≡ x → inner_field outer key v ≡ x
inner_has outer key v e x at has = ap (λ o. field_value (option_and_then (get key) o)) at ∙ has

carried : (t s : FieldValue) (p : Pair) → pair_of_fields t s ≡ Some p → (t ≡ whole p.term) × (s ≡ whole p.seq)
carried (whole t) (whole s) p made = let is = pair_of-numbers t s p made in (ap whole (sym is.0), ap whole (sym is.1))
carried (whole t) absent p made = absurd (none-some p made)
carried (whole t) not_whole p made = absurd (none-some p made)
carried (whole t) (text x) p made = absurd (none-some p made)
carried (whole t) (truth b) p made = absurd (none-some p made)
carried (whole t) other p made = absurd (none-some p made)
carried absent s p made = absurd (none-some p made)
carried not_whole s p made = absurd (none-some p made)
carried (text x) s p made = absurd (none-some p made)
carried (truth b) s p made = absurd (none-some p made)
carried other s p made = absurd (none-some p made)

pair_carried : (body : Data) (p : Pair) → carried_pair (body_values body) ≡ Some p → CarriesPair body p
pair_carried body p made =
    let is = carried (body_values body).primary_term (body_values body).seq_no p made in record { term = is.0; seq = is.1 }

pub carried_is : (body : Data) (p : Pair) → CarriesPair body p → carried_pair (body_values body) ≡ Some p
carried_is body p carries =
    ap (λ t. pair_of_fields t (body_values body).seq_no) carries.term ∙ (ap (pair_of_fields (whole p.term)) carries.seq ∙ pair_of-some p)

-- ---- what the table by fields says, the table says

-- a row of a test: its status and its text, or what is reported later
row : {P : Type 0} (b : Bool) (first later : Option Answer) (r : Answer) → (if b then first else later) ≡ Some r
    → (b ≡ true → first ≡ Some r → P) → (later ≡ Some r → P) → P
row true first later r reported here after = here refl reported
row false first later r reported here after = after reported

made_by : {P : Type 0} (make : Pair → Answer) (o : Option Pair) (r : Answer) → option_map make o ≡ Some r → ((p : Pair) → o ≡ Some p → make p ≡ r → P) → P
made_by make None r reported so = absurd (none-some r reported)
made_by make (Some p) r reported so = so p refl (same_Some (make p) r reported)

write_row : {P : Type 0} (wanted status : ℕ) (t : List ℕ) (body : Data) (make : Pair → Answer) (later : Option Answer) (r : Answer)
    → (if (status == wanted) && is_text t (body_values body).outcome then option_map make (carried_pair (body_values body)) else later) ≡ Some r
    → ((p : Pair) → ReportsWrite wanted t status body p → make p ≡ r → P) → (later ≡ Some r → P) → P
write_row wanted status t body make later r reported here after =
    row ((status == wanted) && is_text t (body_values body).outcome) (option_map make (carried_pair (body_values body))) later r reported
    (λ passed first. let parts = and_parts (status == wanted) (is_text t (body_values body).outcome) passed in
    made_by make (carried_pair (body_values body)) r first
    (λ p made. here p (record { has_status = eqb-true status wanted parts.0; outcome = text_is t (body_values body).outcome parts.1; pair = pair_carried body p made })))
    after

conflict_row : {P : Type 0} (status : ℕ) (body : Data) (r : Answer) → conflicted status (body_values body) ≡ Some r → (ReportsConflict status body → Conflict ≡ r → P) → P
conflict_row status body r reported here =
    row ((status == 409) && is_text (codes "version_conflict_engine_exception") (body_values body).error_type) (Some Conflict) None r reported
    (λ passed first. let parts = and_parts (status == 409) (is_text (codes "version_conflict_engine_exception") (body_values body).error_type) passed in
    let there : absent ≡ text (codes "version_conflict_engine_exception") → ⊥ = λ h. cc in
    here (record {
      has_status = eqb-true status 409 parts.0;
      error = inner_is (codes "error") (codes "type") body (text (codes "version_conflict_engine_exception")) there
          (text_is (codes "version_conflict_engine_exception") (body_values body).error_type parts.1);
    }) (same_Some Conflict r first))
    (λ none. absurd (none-some r none))

found_row : {P : Type 0} (o : Option Pair) (v : FieldValue) (r : Answer) → found_with o v ≡ Some r
    → ((p : Pair) (k : ℕ) → o ≡ Some p → v ≡ whole k → Found p k ≡ r → P) → P
found_row None v r reported here = absurd (none-some r reported)
found_row (Some p) absent r reported here = absurd (none-some r reported)
found_row (Some p) (whole k) r reported here = here p k refl refl (same_Some (Found p k) r reported)
found_row (Some p) not_whole r reported here = absurd (none-some r reported)
found_row (Some p) (text t) r reported here = absurd (none-some r reported)
found_row (Some p) (truth b) r reported here = absurd (none-some r reported)
found_row (Some p) other r reported here = absurd (none-some r reported)

missing_reported : (status : ℕ) (body : Data) (r : Answer) → (if (status == 404) && is_truth false (body_values body).found then Some Missing else None) ≡ Some r → Reports Get status body r
missing_reported status body r reported =
    row ((status == 404) && is_truth false (body_values body).found) (Some Missing) None r reported
    (λ passed first. let parts = and_parts (status == 404) (is_truth false (body_values body).found) passed in
    let reports : ReportsMissing status body = record { has_status = eqb-true status 404 parts.0; found = truth_is false (body_values body).found parts.1 } in
    subst (Reports Get status body) (same_Some Missing r first) reports)
    (λ none. absurd (none-some r none))

got_reported : (status : ℕ) (body : Data) (r : Answer) → got status (body_values body) ≡ Some r → Reports Get status body r
got_reported status body r reported =
    row ((status == 200) && is_truth true (body_values body).found) (found_with (carried_pair (body_values body)) (body_values body).source_k)
    (if (status == 404) && is_truth false (body_values body).found then Some Missing else None) r reported
    (λ passed first. let parts = and_parts (status == 200) (is_truth true (body_values body).found) passed in
    found_row (carried_pair (body_values body)) (body_values body).source_k r first
    (λ p k made source is. let there : absent ≡ whole k → ⊥ = λ h. cc in
    let reports : ReportsFound status body p k = record {
      has_status = eqb-true status 200 parts.0;
      found = truth_is true (body_values body).found parts.1;
      pair = pair_carried body p made;
      source = inner_is (codes "_source") (codes "k") body (whole k) there source;
    } in subst (Reports Get status body) is reports))
    (missing_reported status body r)

reply_parsed : (op : Op) (status : ℕ) (body : Data) (r : Answer) → reported_reply op status (body_values body) ≡ Some r → Reports op status body r
reply_parsed Get status body r reported = got_reported status body r reported
reply_parsed (Index j c) status body r reported =
    write_row 201 status (codes "created") body (λ p. Indexed p true) _ r reported (λ p reports is. subst (Reports (Index j c) status body) is reports)
    (λ later. write_row 200 status (codes "updated") body (λ p. Indexed p false) _ r later (λ p reports is. subst (Reports (Index j c) status body) is reports)
    (λ last. conflict_row status body r last (λ reports is. subst (Reports (Index j c) status body) is reports)))
reply_parsed (Delete c) status body r reported =
    write_row 200 status (codes "deleted") body (λ p. Deleted p true) _ r reported (λ p reports is. subst (Reports (Delete c) status body) is reports)
    (λ later. write_row 404 status (codes "not_found") body (λ p. Deleted p false) _ r later (λ p reports is. subst (Reports (Delete c) status body) is reports)
    (λ last. conflict_row status body r last (λ reports is. subst (Reports (Delete c) status body) is reports)))
reply_parsed (Create j) status body r reported =
    write_row 201 status (codes "created") body (λ p. Indexed p true) _ r reported (λ p reports is. subst (Reports (Create j) status body) is reports)
    (λ last. conflict_row status body r last (λ reports is. subst (Reports (Create j) status body) is reports))

-- ---- what the table says, the table by fields says

-- the first of two rows
first_row : (status wanted : ℕ) (t : List ℕ) (v : FieldValue) (first later : Option Answer) → status ≡ wanted → v ≡ text t
    → (if (status == wanted) && is_text t v then first else later) ≡ first
first_row status wanted t v first later is has =
    ap (λ b. if b then first else later) (and_from (status == wanted) (is_text t v) (eq-eqb status wanted is) (is_text-same t v has))

-- a row of another status
later_row : (status wanted : ℕ) (b : Bool) (first later : Option Answer) → (status == wanted) ≡ false → (if (status == wanted) && b then first else later) ≡ later
later_row status wanted b first later differs = ap (λ a. if a && b then first else later) differs

conflict_is : (status : ℕ) (body : Data) → ReportsConflict status body → conflicted status (body_values body) ≡ Some Conflict
conflict_is status body reports =
    first_row status 409 (codes "version_conflict_engine_exception") (body_values body).error_type (Some Conflict) None reports.has_status
    (inner_has (codes "error") (codes "type") body reports.error.0 (text (codes "version_conflict_engine_exception")) reports.error.1 reports.error.2)

-- the row of a write with this status and this text
write_is : (wanted status : ℕ) (t : List ℕ) (body : Data) (make : Pair → Answer) (later : Option Answer) (p : Pair) → ReportsWrite wanted t status body p
    → (if (status == wanted) && is_text t (body_values body).outcome then option_map make (carried_pair (body_values body)) else later) ≡ Some (make p)
write_is wanted status t body make later p reports =
    first_row status wanted t (body_values body).outcome (option_map make (carried_pair (body_values body))) later reports.has_status reports.outcome
    ∙ ap (option_map make) (carried_is body p reports.pair)

other_status : (status wanted : ℕ) (n : ℕ) → status ≡ n → (n == wanted) ≡ false → (status == wanted) ≡ false
other_status status wanted n is differs = ap (λ s. s == wanted) is ∙ differs

found_is : (status : ℕ) (body : Data) (p : Pair) (k : ℕ) → ReportsFound status body p k → got status (body_values body) ≡ Some (Found p k)
found_is status body p k reports =
    ap (λ b. if b then found_with (carried_pair (body_values body)) (body_values body).source_k else (if (status == 404) && is_truth false (body_values body).found then Some Missing else None))
    (and_from (status == 200) (is_truth true (body_values body).found) (eq-eqb status 200 reports.has_status) (ap (is_truth true) reports.found))
    ∙ (ap (λ o. found_with o (body_values body).source_k) (carried_is body p reports.pair)
    ∙ ap (found_with (Some p)) (inner_has (codes "_source") (codes "k") body reports.source.0 (whole k) reports.source.1 reports.source.2))

missing_is : (status : ℕ) (body : Data) → ReportsMissing status body → got status (body_values body) ≡ Some Missing
missing_is status body reports =
    later_row status 200 (is_truth true (body_values body).found) (found_with (carried_pair (body_values body)) (body_values body).source_k)
    (if (status == 404) && is_truth false (body_values body).found then Some Missing else None) (other_status status 200 404 reports.has_status refl)
    ∙ ap (λ b. if b then Some Missing else None)
    (and_from (status == 404) (is_truth false (body_values body).found) (eq-eqb status 404 reports.has_status) (ap (is_truth false) reports.found))

pub reported_is : (op : Op) (status : ℕ) (body : Data) (r : Answer) → Reports op status body r → reported_reply op status (body_values body) ≡ Some r
reported_is Get status body (Indexed p flag) reports = absurd reports
reported_is Get status body (Deleted p flag) reports = absurd reports
reported_is Get status body (Found p k) reports = found_is status body p k reports
reported_is Get status body Missing reports = missing_is status body reports
reported_is Get status body Conflict reports = absurd reports
reported_is (Index j c) status body (Indexed p true) reports = write_is 201 status (codes "created") body (λ q. Indexed q true) _ p reports
reported_is (Index j c) status body (Indexed p false) reports =
    later_row status 201 (is_text (codes "created") (body_values body).outcome) _ _ (other_status status 201 200 reports.has_status refl)
    ∙ write_is 200 status (codes "updated") body (λ q. Indexed q false) _ p reports
reported_is (Index j c) status body (Deleted p flag) reports = absurd reports
reported_is (Index j c) status body (Found p k) reports = absurd reports
reported_is (Index j c) status body Missing reports = absurd reports
reported_is (Index j c) status body Conflict reports =
    later_row status 201 (is_text (codes "created") (body_values body).outcome) _ _ (other_status status 201 409 reports.has_status refl)
    ∙ (later_row status 200 (is_text (codes "updated") (body_values body).outcome) _ _ (other_status status 200 409 reports.has_status refl)
    ∙ conflict_is status body reports)
reported_is (Delete c) status body (Indexed p flag) reports = absurd reports
reported_is (Delete c) status body (Deleted p true) reports = write_is 200 status (codes "deleted") body (λ q. Deleted q true) _ p reports
reported_is (Delete c) status body (Deleted p false) reports =
    later_row status 200 (is_text (codes "deleted") (body_values body).outcome) _ _ (other_status status 200 404 reports.has_status refl)
    ∙ write_is 404 status (codes "not_found") body (λ q. Deleted q false) _ p reports
reported_is (Delete c) status body (Found p k) reports = absurd reports
reported_is (Delete c) status body Missing reports = absurd reports
reported_is (Delete c) status body Conflict reports =
    later_row status 200 (is_text (codes "deleted") (body_values body).outcome) _ _ (other_status status 200 409 reports.has_status refl)
    ∙ (later_row status 404 (is_text (codes "not_found") (body_values body).outcome) _ _ (other_status status 404 409 reports.has_status refl)
    ∙ conflict_is status body reports)
reported_is (Create j) status body (Indexed p true) reports = write_is 201 status (codes "created") body (λ q. Indexed q true) _ p reports
reported_is (Create j) status body (Indexed p false) reports = absurd reports
reported_is (Create j) status body (Deleted p flag) reports = absurd reports
reported_is (Create j) status body (Found p k) reports = absurd reports
reported_is (Create j) status body Missing reports = absurd reports
reported_is (Create j) status body Conflict reports =
    later_row status 201 (is_text (codes "created") (body_values body).outcome) _ _ (other_status status 201 409 reports.has_status refl)
    ∙ conflict_is status body reports

-- ---- what is heard

-- the table says one reply at most
pub reports_one : (op : Op) (status : ℕ) (body : Data) (r s : Answer) → Reports op status body r → Reports op status body s → r ≡ s
reports_one op status body r s first second = same_Some r s (sym (reported_is op status body r first) ∙ reported_is op status body s second)

stranger_named : (d : List ℕ) (v : FieldValue) → is_other_text d v ≡ true → (name : List ℕ) × (v ≡ text name) × (name ≢ d)
stranger_named d absent h = cc
stranger_named d (whole n) h = cc
stranger_named d not_whole h = cc
stranger_named d (text found) h = (found, refl, λ same. let yes : bytes_eq found d ≡ true = (bytes_eq-Decides found d).1 same in let no_other : not (bytes_eq found d) ≡ false = ap not yes in cc)
stranger_named d (truth b) h = cc
stranger_named d other h = cc

pub is_other_text-named : (d name : List ℕ) (v : FieldValue) → v ≡ text name → name ≢ d → is_other_text d v ≡ true
is_other_text-named d name v is differs = ap (is_other_text d) is ∙ by_test (bytes_eq name d) refl where
  by_test : (b : Bool) → bytes_eq name d ≡ b → not b ≡ true
  by_test true same = absurd (differs ((bytes_eq-Decides name d).0 same))
  by_test false same = refl

stranger_is : (d : List ℕ) (body : Data) → IsStranger d body → is_other_text d (body_values body).id ≡ true
stranger_is d body (name, has, differs) = is_other_text-named d name (body_values body).id has differs

not_stranger : (d : List ℕ) (body : Data) → is_other_text d (body_values body).id ≡ false → ¬ IsStranger d body
not_stranger d body known stranger = let yes : is_other_text d (body_values body).id ≡ true = stranger_is d body stranger in cc

-- what is heard by the fields is heard
pub heard_is : (d : List ℕ) (op : Op) (status : ℕ) (body : Data) → IsHeard d op status body (heard op d status (body_values body))
heard_is d op status body = by_test (is_other_text d (body_values body).id) refl where
  by_reported : ¬ IsStranger d body → (o : Option Answer) → reported_reply op status (body_values body) ≡ o → IsHeard d op status body (reply_or_unknown o)
  by_reported known None reported = (known, λ r reports. none-some r (sym reported ∙ reported_is op status body r reports))
  by_reported known (Some r) reported = (known, reply_parsed op status body r reported)

  by_test : (b : Bool) → is_other_text d (body_values body).id ≡ b → IsHeard d op status body (if b then Stranger else reply_or_unknown (reported_reply op status (body_values body)))
  by_test true is = stranger_named d (body_values body).id is
  by_test false is = by_reported (not_stranger d body is) (reported_reply op status (body_values body)) refl

-- one thing at most is heard
pub heard_one : (d : List ℕ) (op : Op) (status : ℕ) (body : Data) (h g : Heard) → IsHeard d op status body h → IsHeard d op status body g → h ≡ g
heard_one d op status body Stranger Stranger a b = refl
heard_one d op status body Stranger (Reply s) a b = absurd (b.0 a)
heard_one d op status body Stranger Unknown a b = absurd (b.0 a)
heard_one d op status body (Reply r) Stranger a b = absurd (a.0 b)
heard_one d op status body (Reply r) (Reply s) a b = ap Reply (reports_one op status body r s a.1 b.1)
heard_one d op status body (Reply r) Unknown a b = absurd (b.1 r a.1)
heard_one d op status body Unknown Stranger a b = absurd (a.0 b)
heard_one d op status body Unknown (Reply s) a b = absurd (a.1 s b.1)
heard_one d op status body Unknown Unknown a b = refl

-- what is heard, exactly
pub heard_exactly : (d : List ℕ) (op : Op) (status : ℕ) (body : Data) (h g : Heard) → h ≡ heard op d status (body_values body) → (h ≡ g) ↔ IsHeard d op status body g
heard_exactly d op status body h g is = (
  λ same. subst (IsHeard d op status body) (sym is ∙ same) (heard_is d op status body),
  λ heard_so. is ∙ heard_one d op status body _ g (heard_is d op status body) heard_so,
)
