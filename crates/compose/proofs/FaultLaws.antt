-- Entries that have a first fault are no cover.
use Rattle.std.proofs.Common.{◌≡◌, ◌<◌, arith}
use Rattle.version_pair.proofs.ListLemmas.{get_take}
use Rattle.places.proofs.WalkLemmas.{fault_not_valid}
use Rattle.compose.specs.Laws.{FaultyAreNoCover}
use Rattle.compose.specs.declared.verify_fault.VerifyFault.TheVariants as fault

-- entries that have a first fault are no cover
pub faulty_are_no_cover : FaultyAreNoCover
faulty_are_no_cover conflicts events entries (fault.DocStranger i) reported cover = reported.2 (cover.fine.known i reported.0 reported.1.here)
faulty_are_no_cover conflicts events entries (fault.DocTwice i) reported cover =
    let named = reported.3 in
    let before = get_take entries i named.0 named.1 named.2 in
    let less : named.0 < i = before.1 in
    let same : named.0 ≡ i = cover.fine.once named.0 i named.1 reported.0 before.0 reported.1.here named.3 in
    omega arith
faulty_are_no_cover conflicts events entries (fault.Broken i broken) reported cover = fault_not_valid conflicts _ reported.0.places broken reported.4 (cover.fine.valid i reported.0 reported.1.here)
faulty_are_no_cover conflicts events entries (fault.DocMissing k) reported cover = reported.3 (cover.complete k reported.0 reported.2)
faulty_are_no_cover conflicts events entries (fault.PairTwice shard pair) reported cover =
    let twice = reported.2 in
    twice.apart (cover.distinct twice.entry twice.place twice.other_entry twice.other_place shard pair twice.one twice.other)
faulty_are_no_cover conflicts events entries fault.NoMemory reported cover = absurd reported
