-- What one read does to the records that are left.
use Rattle.std.proofs.Common.{◌≡◌, ℕ, Bool, true, false, List, [], ◌∷◌, Option, Some, None, Result, Ok, Err, OnOk, is_err, refl, sym, subst, ◌∙◌, inl, Bor}
use Rattle.csv.specs.Machine.{Read, ends_at_end, next_record}
use Rattle.csv.specs.Reading.{ChangesHeaders, NextIs, ReadRecord, Ready, ReadsNext, default_config, is_flexible, pending_of, source_of, took_first}
use Rattle.csv.specs.declared.parser.State.{State}
use Rattle.csv.specs.declared.reader.Reader.{Reader}
use Rattle.csv.specs.declared.reader.Headers.{Headers}
use Rattle.csv_rows.specs.Records.{Record}
use Rattle.csv_rows.specs.Left.{IsBetween, bytes_of, records_left, rows_from, rows_in, rows_unless}
use Rattle.csv_rows.proofs.Machine.{left_more, left_none, next_settles}

one_taken : (o : Option Read) (s : State) (xs : List ℕ) (fields : Record) (s2 : State) (ys : List ℕ) → ends_at_end s ≡ false → next_record default_config s [] [] xs ≡ o → NextIs o true fields s2 ys
    → (records_left s xs ≡ fields ∷ records_left s2 ys) × (ends_at_end s2 ≡ false)
one_taken None s xs fields s2 ys e h n = cc n
one_taken (Some r) s xs fields s2 ys e h n = rw (n.1, n.2, n.3) (left_more s xs r e h, next_settles default_config s [] [] xs r h)

none_taken : (o : Option Read) (s : State) (xs : List ℕ) (fields : Record) (s2 : State) (ys : List ℕ) → next_record default_config s [] [] xs ≡ o → NextIs o false fields s2 ys → records_left s xs ≡ []
none_taken None s xs fields s2 ys h n = left_none s xs h
none_taken (Some r) s xs fields s2 ys h n = cc n.0

taken_known : (s : State) (xs : List ℕ) (after : Option (List ℕ)) (fields : Record) (s2 : State) → ends_at_end s ≡ false → ReadsNext default_config s (Some xs) after true fields s2
    → (records_left s xs ≡ fields ∷ rows_from s2 after) × (ends_at_end s2 ≡ false) × (ys : List ℕ) × (after ≡ Some ys)
taken_known s xs None fields s2 e r = absurd r
taken_known s xs (Some ys) fields s2 e r = let t = one_taken _ s xs fields s2 ys e refl r in (t.0, t.1, ys, refl)

none_known : (s : State) (xs : List ℕ) (after : Option (List ℕ)) (fields : Record) (s2 : State) → ReadsNext default_config s (Some xs) after false fields s2 → records_left s xs ≡ []
none_known s xs None fields s2 r = absurd r
none_known s xs (Some ys) fields s2 r = none_taken _ s xs fields s2 ys refl r

-- a read that found a record
pub read_one : (a b : Reader (Bor (List ℕ))) (fields : Record) → IsBetween a true → took_first b ≡ true → is_flexible b ≡ is_flexible a → ReadRecord bytes_of a b true fields
    → (rows_in a ≡ fields ∷ rows_in b) × IsBetween b true
read_one a b fields k first flexible r =
    let t = taken_known a.state k.source.0 (pending_of (bytes_of b.rdr) b) fields b.state k.state (rw (k.config, k.source.1) at r.0) in
    let now : source_of bytes_of b ≡ pending_of (bytes_of b.rdr) b = rw r.1 refl in (
      rw (k.source.1, now) t.0,
      record {
        trim = r.3 ∙ k.trim;
        named = λ e. absurd (cc);
        ready = λ e. inl first;
        config = r.2 ∙ k.config;
        flexible = flexible ∙ k.flexible;
        state = t.1;
        source = (t.2, now ∙ t.3);
      },
    )

-- a read that found none
pub read_none : (a b : Reader (Bor (List ℕ))) (fields : Record) → IsBetween a true → ReadRecord bytes_of a b false fields → rows_in a ≡ []
read_none a b fields k r = rw k.source.1 (none_known a.state k.source.0 (pending_of (bytes_of b.rdr) b) fields b.state (rw (k.config, k.source.1) at r.0))

with-headers : (a : Reader (Bor (List ℕ))) (h : Option Headers) → IsBetween a false → Ready (record a { headers = h }) → (rows_in (record a { headers = h }) ≡ rows_in a) × IsBetween (record a { headers = h }) true
with-headers a h k ready = (refl, record { trim = k.trim; named = λ e. absurd (cc); ready = λ e. ready; config = k.config; flexible = k.flexible; state = k.state; source = k.source })

-- a header row that is given before the first record changes nothing of what is read
pub begun : (a b : Reader (Bor (List ℕ))) → IsBetween a false → ChangesHeaders a b → Ready b → (rows_in b ≡ rows_in a) × IsBetween b true
begun a b k same ready =
    let moved : Ready (record a { headers = b.headers }) = subst Ready same ready in
    subst (λ (r : Reader (Bor (List ℕ))). (rows_in r ≡ rows_in a) × IsBetween r true) (sym same) (with-headers a b.headers k moved)

-- What stands when a record is about to be read.
pub record IsOpen (a : Reader (Bor (List ℕ))) (b : Reader (Bor (List ℕ))) (now_begun now_done : Bool) : Type 0 where
  pub same : rows_in b ≡ rows_in a
  pub between : IsBetween b true
  pub is_begun : now_begun ≡ true
  pub is_done : now_done ≡ false

-- what holds of an answer that is no error
pub on-ok : {T E : Type 0} (r : Result T E) (P : Type 0) → false ≡ is_err r → OnOk r P → P
on-ok (Ok t) P e h = h
on-ok (Err e) P f h = absurd (cc)

-- the records before and after a read
pub taken-view : (a b n : Reader (Bor (List ℕ))) (fields : Record) (before after : Bool) → before ≡ false → after ≡ false → rows_in b ≡ rows_in a → rows_in b ≡ fields ∷ rows_in n → rows_unless before a ≡ fields ∷ rows_unless after n
taken-view a b n fields true after p q same one = absurd (cc)
taken-view a b n fields false true p q same one = absurd (cc)
taken-view a b n fields false false p q same one = sym same ∙ one

pub none-view : (a b : Reader (Bor (List ℕ))) (before : Bool) → before ≡ false → rows_in b ≡ rows_in a → rows_in b ≡ [] → rows_unless before a ≡ []
none-view a b true p same none = absurd (cc)
none-view a b false p same none = sym same ∙ none
