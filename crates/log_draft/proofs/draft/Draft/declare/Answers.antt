use Rattle.std.proofs.Common.{◌≡◌, ◌∷◌, ◌++◌, [], ◌∙◌, ap, sym, subst, arith, Ok, List, ℕ}
use Rattle.std.proofs.lemmas.Grind.{common_steps}
use Rattle.mission_items.specs.Cuts.{with_cut}
use Rattle.mission_items.specs.Names.{declared, names_of}
use Rattle.mission_items.specs.Valid.{IsRight}
use Rattle.mission_items.specs.declared.decl.Decl.{Decl}
use Rattle.mission_items.specs.declared.mission.Mission.{Mission}
use Rattle.mission_items.proofs.Making.{declared-last}
use Rattle.log_draft.specs.Kept.{AreCounts, MayFollow}
use Rattle.log_draft.specs.Room.{room_for}
use Rattle.log_draft.proofs.Keeping.{kept_with}
use Rattle.log_draft.proofs.draft.Draft.declare.Goals as goal

pub invariant_of-self-2 : goal.invariant_of-self-2
invariant_of-self-2 c =
    let old = c.self.inside.items.items in
    let i = c.args.item in
    let back = sym c.self.view_is in
    let m : Mission = record {
      version = c.self.inside.version;
      ticks = c.self.inside.ticks;
      width = c.self.inside.width;
      cuts = c.self.inside.clock;
      items = old;
    } in
    let stored = rw c.unwrap.ensures at c.push.ensures.items in
    let items : c.push.new.self.items ≡ old ++ i ∷ [] = grind (arith, common_steps, stored, c.in_ok-reserve.ensures.items) in
    let named : names_of old i ≡ (c.args.name.now, c.args.declared) ∷ [] =
    subst (λ (d : Mission). names_of d.items i ≡ (c.args.name.now, c.args.declared) ∷ []) back c.requires.named in
    rw (items, c.is_head.ensures, c.may_precede_cut.ensures) (kept_with c.self.inside.names c.declare.new.self c.self.inside.has_head c.self.inside.is_open c.self.inside.rated c.mark_rate.new.rated c.self.inside.counts c.args.counts m i
    c.self.invariant
    (subst (λ (d : Mission). IsRight d.version d.ticks d.items i) back c.requires.right)
    (subst (λ (d : Mission). MayFollow d i) back c.requires.follows)
    (subst (λ (d : Mission). room_for d i ≡ Ok tt) back c.requires.room)
    (subst (λ (d : Mission). with_cut d.cuts i ≡ d.cuts) back c.requires.uncut)
    (subst (λ (d : Mission). AreCounts c.args.counts d.cuts (d.items ++ i ∷ [])) back c.requires.counts)
    (c.in_ok-declare.ensures.added
    ∙ (ap (λ (ps : List (List ℕ × Decl)). ps ++ (c.args.name.now, c.args.declared) ∷ []) c.self.invariant.names
    ∙ (ap (λ (ps : List (List ℕ × Decl)). declared old ++ ps) (sym named) ∙ sym (declared-last old i))))
    c.mark_rate.ensures)
