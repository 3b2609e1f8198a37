-- What is told of the bytes of a source.
use Rattle.std.proofs.Common.{◌≡◌, ℕ, suc, ◌≤◌, List, [], ◌∷◌, ◌++◌, Ok, Err, codes, flat_map, length, length-append, refl, sym, ap, subst, arith}
use Rattle.std.specs.List.{join_with_byte}
use Rattle.mission_items.specs.declared.mission.Mission.{Mission}
use Rattle.mission_log.specs.Log.{log_of}
use Rattle.pair_form.specs.Forms.{AreLinks, IsPairText, LinkForm, SourceForm}
use Rattle.pair_form.specs.Lines.{line}
use Rattle.pair_causes.specs.Judged.{IsJudged}
use Rattle.pair_causes.specs.Reading.{HasMissions, IsLogRead, IsPairRead, IsRefused}
use Rattle.pair_causes.specs.declared.cause.PairCause.{PairCause}
use Rattle.pair_causes.specs.declared.cause.PairCause.TheVariants as cause
use Rattle.pair_causes.specs.declared.cause.PairFault.{PairFault}
use Rattle.pair_causes.specs.declared.cause.PairFault.TheVariants as fault

-- ---- each link takes a byte at least

line-some : (words : List (List ℕ)) → 1 ≤ length (line words)
line-some words = omega (arith, length-append (join_with_byte 32 words) (10 ∷ []))

lines-some : (lines : List (List (List ℕ))) → length lines ≤ length (flat_map line lines)
lines-some [] = omega arith
lines-some (words ∷ lines) = omega (arith, length-append (line words) (flat_map line lines), line-some words, lines-some lines)

links-as-lines : (lines : List (List (List ℕ))) (links : List LinkForm) → AreLinks lines links → length links ≡ length lines
links-as-lines [] [] h = refl
links-as-lines [] (link ∷ links) h = absurd h
links-as-lines (words ∷ lines) [] h = absurd h
links-as-lines (words ∷ lines) (link ∷ links) h = ap (λ (n : ℕ). suc n) (links-as-lines lines links h.1)

behind : (xs ys : List ℕ) → length ys ≤ length (xs ++ ys)
behind xs ys = omega (arith, length-append xs ys)

pub links-few : (bytes : List ℕ) (form : SourceForm) → IsPairText bytes form → length form.links ≤ length bytes
links-few bytes form says =
    let lines = flat_map line says.links in
    let last = lines ++ line (codes "end" ∷ []) in
    let offset = line says.offset ++ last in
    let second = form.second ++ 10 ∷ offset in
    let first = form.first ++ 10 ∷ second in
    omega (
      arith,
      ap length says.whole,
      length-append (line says.lengths) first,
      length-append form.first (10 ∷ second),
      length-append form.second (10 ∷ offset),
      length-append (line says.offset) last,
      length-append lines (line (codes "end" ∷ [])),
      lines-some says.links,
      links-as-lines says.links form.links says.links_are,
    )

-- ---- causes

-- the second log is refused
pub second-refused : (bytes : List ℕ) (form : SourceForm) (first : Mission) (e : PairFault) → IsPairText bytes form → log_of form.first ≡ Ok first → IsLogRead form.second cause.SecondLog (Err e) → IsPairRead bytes (Err e)
second-refused bytes form first (fault.Bad at c) says first_is h =
    subst (λ (k : PairCause). IsRefused bytes at k) (sym h.0) (record { form = form; says = says; first = first; first_is = first_is; cause = h.1.0; refused = h.1.1 })
second-refused bytes form first fault.NoMemory says first_is h = tt

-- a cause of both missions refuses them
pub judged-refused : (bytes : List ℕ) (form : SourceForm) (first second : Mission) (e : PairFault) → HasMissions bytes form first second → IsJudged first second form (Err e) → IsPairRead bytes (Err e)
judged-refused bytes form first second fault.NoMemory missions h = tt
judged-refused bytes form first second (fault.Bad at c) missions h = at-cause c h
  where
    at-cause : (k : PairCause) → IsJudged first second form (Err (fault.Bad at k)) → IsRefused bytes at k
    at-cause cause.Form h = absurd (cc (h.holds))
    at-cause cause.FirstLog h = absurd (cc (h.holds))
    at-cause cause.SecondLog h = absurd (cc (h.holds))
    at-cause k h = record { form = form; first = first; second = second; missions = missions; refused = h }
