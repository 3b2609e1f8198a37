-- The records of the text of an accepted mission make the mission.
use Rattle.std.proofs.Common.{◌≡◌, ℕ, ◌≤◌, Bool, true, false, ◌&&◌, ◌||◌, cond, List, [], ◌∷◌, ◌++◌, Some, Result, Ok, Err, length, refl, sym, ap, subst, ◌∙◌, inl, inr, arith, map, append_assoc, append-nil, nat_lt}
use Rattle.std.specs.Prelude.{codes}
use Rattle.std.specs.List.{list_all}
use Rattle.std.proofs.lemmas.Bool.{cases_Bool}
use Rattle.std.proofs.lemmas.Bool.Decides.{nat_tests}
use Rattle.csv.specs.Records.{field_at}
use Rattle.csv_rows.specs.Records.{Record, records_of}
use Rattle.slice_gates.specs.Cuts.{uniform_cuts}
use Rattle.expr_tree.specs.Trees.{Relation}
use Rattle.expr_text.specs.Canonical.{relation_text}
use Rattle.expr_text.specs.Spellable.{IsPrintable}
use Rattle.formula_text.specs.Laws.{IsFieldText}
use Rattle.formula_text.specs.Readings.{reading_of}
use Rattle.log_spelling.specs.Kinds.{word_of}
use Rattle.log_spelling.specs.declared.kind.Kind.{Kind}
use Rattle.log_spelling.specs.declared.kind.Kind.TheVariants as kind
use Rattle.log_fields.specs.Fields.{field}
use Rattle.log_fields.specs.Steps.{◌>>=◌}
use Rattle.log_fields.specs.declared.fault.Cause.{Cause}
use Rattle.log_fields.specs.declared.fault.Cause.TheVariants as cause
use Rattle.mission_items.specs.Cuts.{boundaries}
use Rattle.mission_items.specs.Made.{has_head, is_head}
use Rattle.mission_items.specs.Valid.{AreFew, AreRight, AreRightFrom, IsMission, may_precede_cut}
use Rattle.mission_items.specs.declared.item.Item.{Item}
use Rattle.mission_items.specs.declared.item.Item.TheVariants as item
use Rattle.mission_items.specs.declared.mission.Mission.{Mission}
use Rattle.mission_log.specs.Log.{added, after, in_mission, is_note_record, kind_step, log_by, log_from, log_of, mission_step, nothing_yet, record_step, step, with_item}
use Rattle.mission_log.specs.Room.{room_for}
use Rattle.log_draft.proofs.Records.{all-last, boundaries-last, head-last, note-open, notes_boundaries}
use Rattle.log_text.specs.NameTexts.{texts_of}
use Rattle.log_text.specs.Records.{mission_record}
use Rattle.log_text.specs.Texts.{item_record, log_records, log_text}
use Rattle.log_text.proofs.ItemLines.{right-front}
use Rattle.log_text.proofs.KindFields.{mission_read}
use Rattle.log_round_trip.proofs.Going.{step_inside, step_of_kind}
use Rattle.log_round_trip.proofs.Rooms.{room-is, room-open, room-whole}
use Rattle.log_round_trip.proofs.SoFar.{begun, boundaries-known, headless, only_notes, so_far}
use Rattle.log_round_trip.proofs.Steps.{at-step, beacon-step, bound-step, constell-step, cut-step, delay-step, deriv-step, each-step, eval-step, ping-step, range-step, range3-step, revisit-step, settle-step, signal-step, single-step, variable-step}

-- the records after others are right after them
right-back : (version end : ℕ) (before xs ys : List Item) → AreRightFrom version end before (xs ++ ys) → AreRightFrom version end (before ++ xs) ys
right-back version end before [] ys h = subst (λ (b : List Item). AreRightFrom version end b ys) (sym (append-nil before)) h
right-back version end before (x ∷ xs) ys h = subst (λ (b : List Item). AreRightFrom version end b ys) (append_assoc before (x ∷ []) xs) (right-back version end (before ++ x ∷ []) xs ys h.2)

so_far-begun : (m : Mission) (items : List Item) → has_head items ≡ true → so_far m items ≡ begun m items
so_far-begun m items h = ap (λ (b : Bool). cond b (begun m items) (headless items)) h

so_far-headless : (m : Mission) (items : List Item) → has_head items ≡ false → so_far m items ≡ headless items
so_far-headless m items h = ap (λ (b : Bool). cond b (begun m items) (headless items)) h

-- one record more in a mission
begun-last : (m : Mission) (before : List Item) (i : Item) → with_item i (begun m before) ≡ begun m (before ++ i ∷ [])
begun-last m before i =
    ap (λ (c : List ℕ). record { version = m.version; ticks = m.ticks; width = m.width; cuts = c; items = before ++ i ∷ [] }) (sym (boundaries-last m.ticks m.width before i))

or_true : (b c : Bool) → b ≡ true → (b || c) ≡ true
or_true b c h = ap (λ (a : Bool). a || c) h

or_here : (b : Bool) → (b || true) ≡ true
or_here true = refl
or_here false = refl

-- a note
note_step : (d : Mission) → step d (codes "#" ∷ []) ≡ added d item.Note
unfolding step field_at
note_step d = refl

added-is : (d : Mission) (i : Item) → room_for d i ≡ Ok tt → added d i ≡ Ok (with_item i d)
added-is d i room = ap (λ (r : Result (Unit {0}) Cause). r >>= (λ (u : Unit {0}). Ok (with_item i d))) room

module _ (again : (r : Relation) → IsPrintable r → reading_of (relation_text r) ≡ Ok r) (texts : (r : Relation) → IsPrintable r → IsFieldText (relation_text r)) (m : Mission) (is : IsMission m) where
  -- ---- room

  few-of : (before rest : List Item) (i : Item) (cuts : List ℕ) → m.items ≡ before ++ i ∷ rest → cuts ≡ m.cuts → AreFew (record { version = m.version; ticks = m.ticks; width = m.width; cuts = cuts; items = before ++ i ∷ rest })
  few-of before rest i cuts same known =
      subst (λ (items : List Item). AreFew (record { version = m.version; ticks = m.ticks; width = m.width; cuts = cuts; items = items })) same
      (subst (λ (c : List ℕ). AreFew (record { version = m.version; ticks = m.ticks; width = m.width; cuts = c; items = m.items })) (sym known) is.few)

  right-of : (before rest : List Item) (i : Item) → m.items ≡ before ++ i ∷ rest → AreRightFrom m.version m.ticks before (i ∷ rest)
  right-of before rest i same = right-back m.version m.ticks [] before (i ∷ rest) (subst (AreRight m.version m.ticks) same is.right)

  front-of : (before rest : List Item) → m.items ≡ before ++ rest → AreRight m.version m.ticks before
  front-of before rest same = right-front m.version m.ticks [] before rest (subst (AreRight m.version m.ticks) same is.right)

  few-records : (before rest : List Item) (i : Item) → m.items ≡ before ++ i ∷ rest → length (before ++ i ∷ rest) ≤ 1000000
  few-records before rest i same = subst (λ (items : List Item). length items ≤ 1000000) same is.few.records

  room-begun : (before rest : List Item) (i : Item) → m.items ≡ before ++ i ∷ rest → room_for (begun m before) i ≡ Ok tt
  room-begun before rest i same =
      let cuts = boundaries m.ticks m.width before in
      elim (boundaries-known m.ticks m.width m.version m.ticks before rest i (right-of before rest i same)) [
        | inl known ↦
            let all : cuts ≡ m.cuts = known ∙ (sym (ap (boundaries m.ticks m.width) same) ∙ sym is.clock.boundaries) in
            room-is (begun m before) i (room-whole m.version m.ticks m.width cuts before rest i (few-of before rest i cuts same all))
        | inr open_ ↦ room-is (begun m before) i (room-open m.version m.ticks m.width cuts before rest i open_ (few-records before rest i same))
      ]

  -- notes, and one record more that may stand before a cut
  open-after : (before rest : List Item) (i : Item) → m.items ≡ before ++ i ∷ rest → has_head before ≡ false → may_precede_cut i ≡ true → list_all may_precede_cut (before ++ i ∷ []) ≡ true
  open-after before rest i same none may =
      let notes = only_notes m.version m.ticks before (front-of before (i ∷ rest) same) none in
      all-last may_precede_cut before i ∙ both (list_all may_precede_cut before) (may_precede_cut i) (note-open before notes) may
    where
      both : (a b : Bool) → a ≡ true → b ≡ true → (a && b) ≡ true
      both a b e f = rw (e, f) refl

  -- ---- one record

  inside : (before rest : List Item) (i : Item) (k : Kind) (r : Record) → has_head before ≡ true → field r 0 ≡ word_of k → record_step (begun m before) r (Some k) ≡ in_mission (begun m before) (kind_step (begun m before) r (Some k))
      → kind_step (begun m before) r (Some k) ≡ Ok (with_item i (begun m before)) → step (so_far m before) r ≡ Ok (so_far m (before ++ i ∷ []))
  inside before rest i k r head word other found =
      ap (λ (d : Mission). step d r) (so_far-begun m before head)
      ∙ (step_inside (begun m before) r k (Ok (with_item i (begun m before))) word other head found
      ∙ ap (λ (d : Mission). Ok d) (begun-last m before i ∙ sym (so_far-begun m (before ++ i ∷ []) (head-last before i ∙ or_true (has_head before) (is_head i) head))))

  head-here : (before rest : List Item) → m.items ≡ before ++ item.Head ∷ rest → has_head before ≡ false → step (so_far m before) (mission_record m.version m.ticks m.width) ≡ Ok (so_far m (before ++ item.Head ∷ []))
  unfolding field_at kind_step mission_step
  head-here before rest same none =
      let c = is.clock in
      let r = mission_record m.version m.ticks m.width in
      let cuts = uniform_cuts m.ticks m.width in
      let d : Mission = record { version = m.version; ticks = m.ticks; width = m.width; cuts = cuts; items = before } in
      let room : room_for d item.Head ≡ Ok tt = room-is d item.Head (room-open m.version m.ticks m.width cuts before rest item.Head (open-after before rest item.Head same none refl) (few-records before rest item.Head same)) in
      let known : boundaries m.ticks m.width (before ++ item.Head ∷ []) ≡ cuts =
      boundaries-last m.ticks m.width before item.Head ∙ notes_boundaries m.ticks m.width before (only_notes m.version m.ticks before (front-of before (item.Head ∷ rest) same) none) in
      let taken : mission_step (headless before) r ≡ Ok (with_item item.Head d) = rw (mission_read (codes "mission") m.version m.ticks m.width c.known_version c.some_tick c.few_ticks c.some_width c.small_width, none, room) refl in
      ap (λ (e : Mission). step e r) (so_far-headless m before none)
      ∙ (step_of_kind (headless before) r kind.Mission refl
      ∙ (taken
      ∙ ap (λ (e : Mission). Ok e)
      (ap (λ (b : List ℕ). record { version = m.version; ticks = m.ticks; width = m.width; cuts = b; items = before ++ item.Head ∷ [] }) (sym known)
      ∙ sym (so_far-begun m (before ++ item.Head ∷ []) (head-last before item.Head ∙ or_here (has_head before))))))

  note-here : (before rest : List Item) → m.items ≡ before ++ item.Note ∷ rest → step (so_far m before) (codes "#" ∷ []) ≡ Ok (so_far m (before ++ item.Note ∷ []))
  note-here before rest same = elim (cases_Bool (has_head before)) [
    | inl head ↦
        ap (λ (d : Mission). step d (codes "#" ∷ [])) (so_far-begun m before head)
        ∙ (note_step (begun m before)
        ∙ (added-is (begun m before) item.Note (room-begun before rest item.Note same)
        ∙ ap (λ (d : Mission). Ok d) (begun-last m before item.Note ∙ sym (so_far-begun m (before ++ item.Note ∷ []) (head-last before item.Note ∙ or_true (has_head before) false head)))))
    | inr none ↦
        let room = room-is (headless before) item.Note (room-open 0 0 0 [] before rest item.Note (open-after before rest item.Note same none refl) (few-records before rest item.Note same)) in
        ap (λ (d : Mission). step d (codes "#" ∷ [])) (so_far-headless m before none)
        ∙ (note_step (headless before)
        ∙ (added-is (headless before) item.Note room
        ∙ ap (λ (d : Mission). Ok d) (sym (so_far-headless m (before ++ item.Note ∷ []) (head-last before item.Note ∙ ap (λ (b : Bool). b || false) none)))))
  ]

  step-is : (before rest : List Item) (i : Item) → m.items ≡ before ++ i ∷ rest → step (so_far m before) (item_record (texts_of (before ++ i ∷ rest)) m i) ≡ Ok (so_far m (before ++ i ∷ []))
  unfolding field_at kind_step
  step-is before rest item.Head same = head-here before rest same (right-of before rest item.Head same).0
  step-is before rest item.Note same = note-here before rest same
  step-is before rest (item.Cut tick) same =
      let i = item.Cut tick in
      let r = right-of before rest i same in
      inside before rest i kind.Cut _ r.0 refl refl (cut-step m is.clock before (i ∷ rest) (front-of before (i ∷ rest) same) tick r.1.0 r.1.1 r.1.2 (room-begun before rest i same))
  step-is before rest (item.Signal name range) same =
      let i = item.Signal name range in
      let r = right-of before rest i same in
      inside before rest i kind.Signal _ r.0 refl refl (signal-step m is.clock before (i ∷ rest) (front-of before (i ∷ rest) same) name range r.1.0 r.1.1 (room-begun before rest i same))
  step-is before rest (item.Variable name range) same =
      let i = item.Variable name range in
      let r = right-of before rest i same in
      inside before rest i kind.Variable _ r.0 refl refl (variable-step m is.clock before (i ∷ rest) (front-of before (i ∷ rest) same) name range r.1.0 r.1.1 (room-begun before rest i same))
  step-is before rest (item.Beacon name x y) same =
      let i = item.Beacon name x y in
      let r = right-of before rest i same in
      inside before rest i kind.Beacon _ r.0 refl refl (beacon-step m is.clock before (i ∷ rest) (front-of before (i ∷ rest) same) name x y r.1.0 r.1.1 r.1.2 (room-begun before rest i same))
  step-is before rest (item.Deriv x rate) same =
      let i = item.Deriv x rate in
      let r = right-of before rest i same in
      inside before rest i kind.Deriv _ r.0 refl refl (deriv-step m is.clock before (i ∷ rest) (front-of before (i ∷ rest) same) x rate r.1 (room-begun before rest i same))
  step-is before rest (item.Bound x first last range) same =
      let i = item.Bound x first last range in
      let r = right-of before rest i same in
      inside before rest i kind.Bound _ r.0 refl refl (bound-step m is.clock before (i ∷ rest) (front-of before (i ∷ rest) same) x first last range r.1.0 r.1.1 r.1.2 (room-begun before rest i same))
  step-is before rest (item.At x tick range) same =
      let i = item.At x tick range in
      let r = right-of before rest i same in
      inside before rest i kind.At _ r.0 refl refl (at-step m is.clock before (i ∷ rest) (front-of before (i ∷ rest) same) x tick range r.1.0 r.1.1 r.1.2 (room-begun before rest i same))
  step-is before rest (item.Eval x t z) same =
      let i = item.Eval x t z in
      let r = right-of before rest i same in
      inside before rest i kind.Eval _ r.0 refl refl (eval-step m is.clock before (i ∷ rest) (front-of before (i ∷ rest) same) x t z r.1.0 r.1.1 r.1.2 (room-begun before rest i same))
  step-is before rest (item.Delay x y tau) same =
      let i = item.Delay x y tau in
      let r = right-of before rest i same in
      inside before rest i kind.Delay _ r.0 refl refl (delay-step m is.clock before (i ∷ rest) (front-of before (i ∷ rest) same) x y tau r.1.0 r.1.1 r.1.2 (room-begun before rest i same))
  step-is before rest (item.Dist2 near far p b) same =
      let i = item.Dist2 near far p b in
      let r = right-of before rest i same in
      inside before rest i kind.Range _ r.0 refl refl (range-step m is.clock before (i ∷ rest) (front-of before (i ∷ rest) same) near far p b r.1.0 r.1.1 r.1.2 r.1.3 (room-begun before rest i same))
  step-is before rest (item.Dist3 near far p b) same =
      let i = item.Dist3 near far p b in
      let r = right-of before rest i same in
      inside before rest i kind.Range3 _ r.0 refl refl (range3-step m is.clock before (i ∷ rest) (front-of before (i ∷ rest) same) near far p b r.1.0 r.1.1 r.1.2 r.1.3 (room-begun before rest i same))
  step-is before rest (item.Constell p) same =
      let i = item.Constell p in
      let r = right-of before rest i same in
      inside before rest i kind.Constell _ r.0 refl refl (constell-step m is.clock before (i ∷ rest) (front-of before (i ∷ rest) same) p r.1.0 r.1.1 r.1.2 (room-begun before rest i same))
  step-is before rest (item.Ping x y first last beacon near far) same =
      let i = item.Ping x y first last beacon near far in
      let r = right-of before rest i same in
      inside before rest i kind.Ping _ r.0 refl refl (ping-step m is.clock before (i ∷ rest) (front-of before (i ∷ rest) same) x y first last beacon near far r.1.0 r.1.1 r.1.2 r.1.3 r.1.4 (room-begun before rest i same))
  step-is before rest (item.Each formula ls) same =
      let i = item.Each formula ls in
      let r = right-of before rest i same in
      inside before rest i kind.Expr _ r.0 refl refl (each-step m is.clock before (i ∷ rest) (front-of before (i ∷ rest) same) again texts formula ls r.1 (room-begun before rest i same))
  step-is before rest (item.Single formula ls) same =
      let i = item.Single formula ls in
      let r = right-of before rest i same in
      inside before rest i kind.Exprv _ r.0 refl refl (single-step m is.clock before (i ∷ rest) (front-of before (i ∷ rest) same) again texts formula ls r.1.0 r.1.1 (room-begun before rest i same))
  step-is before rest (item.Revisit q) same =
      let i = item.Revisit q in
      let r = right-of before rest i same in
      inside before rest i kind.Revisit _ r.0 refl refl (revisit-step m is.clock before (i ∷ rest) (front-of before (i ∷ rest) same) q r.1 (room-begun before rest i same))
  step-is before rest item.Settle same =
      let i = item.Settle in
      let r = right-of before rest i same in
      inside before rest i kind.Settle _ r.0 refl refl (settle-step m is.clock before (i ∷ rest) (front-of before (i ∷ rest) same) (room-begun before rest i same))

  -- ---- all records

  log-rest : (before rest : List Item) → m.items ≡ before ++ rest → log_from (so_far m before) (map (item_record (texts_of m.items) m) rest) ≡ Ok (so_far m (before ++ rest))
  unfolding log_from
  log-rest before [] same = ap (λ (items : List Item). Ok (so_far m items)) (sym (append-nil before))
  log-rest before (i ∷ rest) same =
      let next = append_assoc before (i ∷ []) rest in
      let found : step (so_far m before) (item_record (texts_of m.items) m i) ≡ Ok (so_far m (before ++ i ∷ [])) =
      subst (λ (all : List Item). step (so_far m before) (item_record (texts_of all) m i) ≡ Ok (so_far m (before ++ i ∷ []))) (sym same) (step-is before rest i same) in
      ap (λ (s : Result Mission Cause). after (so_far m before) s (λ (e : Mission). log_from e (map (item_record (texts_of m.items) m) rest))) found
      ∙ (log-rest (before ++ i ∷ []) rest (same ∙ sym next) ∙ ap (λ (items : List Item). Ok (so_far m items)) next)

  -- the mission record is no note
  some-head : (items : List Item) → has_head items ≡ true → list_all is_note_record (map (item_record (texts_of m.items) m) items) ≡ false
  unfolding field_at
  some-head [] h = cc h
  some-head (item.Head ∷ items) h = refl
  some-head (i ∷ items) h = and_none (is_note_record (item_record (texts_of m.items) m i)) (list_all is_note_record (map (item_record (texts_of m.items) m) items)) (some-head items h)
    where
      and_none : (a b : Bool) → b ≡ false → (a && b) ≡ false
      and_none true b e = e
      and_none false b e = refl

  whole : so_far m m.items ≡ m
  whole = so_far-begun m m.items is.head ∙ ap (λ (c : List ℕ). record { version = m.version; ticks = m.ticks; width = m.width; cuts = c; items = m.items }) (sym is.clock.boundaries)

  records-make : log_by (log_records m) ≡ Ok m
  records-make =
      ap (λ (b : Bool). cond b (Err (0, cause.NoMission)) (log_from nothing_yet (log_records m))) (some-head m.items is.head)
      ∙ (log-rest [] m.items refl ∙ ap (λ (e : Mission). Ok e) whole)

  -- the text is a log of the mission
  pub text-read : records_of (log_text m) ≡ log_records m → length (log_text m) ≤ 67108864 → log_of (log_text m) ≡ Ok m
  text-read read short =
      let fits : nat_lt 67108864 (length (log_text m)) ≡ false = grind (arith, nat_tests) in
      rw fits (ap log_by read ∙ records-make)
