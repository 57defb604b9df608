-- What trying tables does, one after another.
use Rattle.std.proofs.Common.{◌≡◌, ℕ, ◌+◌, Bool, List, [], ◌∷◌, ◌++◌, length, map, take, Option, Some, None, Result, Ok, Err, refl, sym, ◌∙◌, ap, subst, arith, append-nil, length-append}
use Rattle.std.specs.Prelude.{IsErrAnd}
use Rattle.std.specs.FinMap.{get}
use Rattle.std.specs.List.{AllByRecursion}
use Rattle.std.proofs.lemmas.List.{length-map, map-append, take_all, take-append-le}
use Rattle.std.proofs.Math.Seq.{take-append-add}
use Rattle.chunk_core.specs.declared.code.Exit.{Exit}
use Rattle.chunk_core.proofs.Cuts.{append_assoc}
use Rattle.chunk_core.proofs.Each.{each_append}
use Rattle.csv_pipes.specs.Dictionaries.{Dictionary, table_fault, table_value}
use Rattle.csv_pipes.specs.Refusals.{IsRefusedBy}
use Rattle.csv_pipes.specs.declared.table.TableRefused.{TableRefused}
use Rattle.csv_pipes.specs.declared.table.TableRefused.TheVariants as refusal
use Rattle.device_port.specs.Device.{DeviceTold, to_read}
use Rattle.device_port.specs.Depot.{DepotTold, IsUnknown}
use Rattle.scope_tree.specs.Calls.{Seen}
use Rattle.outer_tables.specs.declared.not_read.NotRead.{NotRead}
use Rattle.outer_tables.specs.declared.not_read.NotRead.TheVariants as why
use Rattle.outer_tables.specs.Causes.{as_not_read}
use Rattle.outer_tables.specs.Devices.{MakesDevices, OpensDevice, new_device, when_open}
use Rattle.outer_tables.specs.Outcomes.{ComeOut}
use Rattle.outer_tables.specs.Outcomes.ComeOut.{none, read, closed, unread, refused, unmade, cut}
use Rattle.outer_tables.specs.Rows.{AcquiresRows}
use Rattle.outer_tables.specs.Tables.{ReadsTable, TriesTables}
use Rattle.outer_tables.specs.Whole.{GivesAll, ReadsWhole, WasRead}
use Rattle.outer_tables.proofs.Acquiring.{acquires_none, acquires_then}
use Rattle.outer_tables.proofs.Outcomes.{all_opened, few_tried, none_back, out_more, out_then}
use Rattle.outer_tables.proofs.Pieces.{gives_some}

module _ {V : Type 0} (told : V → DeviceTold) (ends : V → Exit → Bool → V → Type 0) where
  -- nothing was made
  pub tries_none : (s' r : ℕ) (paths : List (List ℕ)) (old new : DepotTold) (a : Seen V) → new ≡ old → TriesTables told ends s' r paths old new a a (Some why.Memory)
  tries_none s' r paths old new a e = record {
    devices = [];
    back = [];
    contents = [];
    out = unmade;
    made = record { made = ap (λ d. d.made) e ∙ sym (append-nil old.made); retired = ap (λ d. d.retired) e ∙ sym (append-nil old.retired); files = ap (λ d. d.files) e };
    unknown = tt;
    rows = acquires_none ends s' r a;
  }

  -- one was made and could not be opened
  pub tries_closed : (s' r : ℕ) (path : List ℕ) (old new : DepotTold) (a : Seen V) (w : NotRead) → OpensDevice told path old new (Err w) → TriesTables told ends s' r (path ∷ []) old new a a (Some w)
  tries_closed s' r path old new a (why.Fault f) o = subst (λ c. TriesTables told ends s' r (path ∷ []) old new a a (Some (why.Fault c))) (sym o.0) (record {
    devices = [];
    back = _;
    contents = [];
    out = closed;
    made = o.1;
    unknown = tt;
    rows = acquires_none ends s' r a;
  })
  tries_closed s' r path old new a why.Memory o = tries_none s' r (path ∷ []) old new a o

  -- one was opened, and its device is e now
  module _ (s' r : ℕ) (path : List ℕ) (old new : DepotTold) (a b : Seen V) (d e : V) (o : OpensDevice told path old new (Ok d)) (rows : AcquiresRows ends s' r (e ∷ []) a b) where
    held : {bss : List (List ℕ)} {w : Option NotRead} → (told e).number ≡ (told d).number → ComeOut told old.files (length old.made) (path ∷ []) (e ∷ []) [] bss w → TriesTables told ends s' r (path ∷ []) old new a b w
    held {bss = bss} same c = record {
      devices = e ∷ [];
      back = [];
      contents = bss;
      out = c;
      made = o.0;
      unknown = (subst (λ n. IsUnknown n old.retired) (sym same) o.2, tt);
      rows = rows;
    }

    -- where a read of it failed, or memory was wanting
    pub tries_unread : (w : NotRead) → ReadsWhole (told d) (told e) (Err w) → TriesTables told ends s' r (path ∷ []) old new a b (Some w)
    tries_unread (why.Fault f) h = subst (λ c. TriesTables told ends s' r (path ∷ []) old new a b (Some (why.Fault c))) (sym h.0) (held (ap (λ (t : DeviceTold). t.number) h.1) (unread e (subst (λ t. WasRead 1 t (told e)) o.1 h.1)))
    tries_unread why.Memory h = held (ap (λ (t : DeviceTold). t.number) h) (cut e (subst (λ t. WasRead 0 t (told e)) o.1 h))

    -- where it was read whole
    module _ (bytes : List ℕ) (g : GivesAll (told d) (told e) bytes) where
      given : GivesAll (when_open (new_device old.files (length old.made) path)) (told e) bytes
      given = subst (λ t. GivesAll t (told e) bytes) o.1 g

      pub tries_refused : (t : TableRefused) → IsRefusedBy (table_fault bytes) t → TriesTables told ends s' r (path ∷ []) old new a b (Some (as_not_read t))
      tries_refused (refusal.Data f) is = held (ap (λ (t : DeviceTold). t.number) g.gives.told) (refused e bytes f given is)
      tries_refused refusal.Memory is = held (ap (λ (t : DeviceTold). t.number) g.gives.told) (cut e (gives_some _ (told e) bytes given.gives))

      pub reads_table : (x : Dictionary) → table_fault bytes ≡ None → ((key : List ℕ) → get x key ≡ table_value bytes key) → ReadsTable told ends s' r path old new a b (Ok x)
      unfolding held
      reads_table x fine values = record { tries = held (ap (λ (t : DeviceTold). t.number) g.gives.told) (read e given fine none); dict = (bytes, refl, values) }

  -- the error that is handed on
  pub reads_badly : (s' r : ℕ) (path : List ℕ) (old new : DepotTold) (a b : Seen V) (x : Result Dictionary NotRead) (w : NotRead) → IsErrAnd x (λ z. z ≡ w) → TriesTables told ends s' r (path ∷ []) old new a b (Some w) → ReadsTable told ends s' r path old new a b x
  reads_badly s' r path old new a b (Ok y) w is t = absurd is
  reads_badly s' r path old new a b (Err y) w is t = record { tries = subst (λ z. TriesTables told ends s' r (path ∷ []) old new a b (Some z)) (sym is) t; dict = tt }

  -- where not all were read, the tables behind are untried
  pub tries_more : (s' r : ℕ) (paths rest : List (List ℕ)) (old new : DepotTold) (a b : Seen V) (w : NotRead) → TriesTables told ends s' r paths old new a b (Some w) → TriesTables told ends s' r (paths ++ rest) old new a b (Some w)
  tries_more s' r paths rest old new a b w t = record {
    devices = t.devices;
    back = t.back;
    contents = t.contents;
    out = out_more rest t.out;
    made = subst (λ l. MakesDevices old new l t.back) (sym (take-append-le (length t.devices + length t.back) paths rest (few_tried t.out))) t.made;
    unknown = t.unknown;
    rows = t.rows;
  }

  -- where all were read, the tables behind are tried
  module _ (s' r : ℕ) (paths qaths : List (List ℕ)) (old mid new : DepotTold) (a b c : Seen V) (w : Option NotRead) (s : ℕ) (behind : s ≡ r + length paths) (f : TriesTables told ends s' r paths old mid a b None) (g : TriesTables told ends s' s qaths mid new b c w) where
    opened : length f.devices ≡ length paths
    opened = all_opened f.out

    back : f.back ≡ []
    back = none_back f.out

    made_all : mid.made ≡ old.made ++ map to_read paths
    made_all = f.made.made ∙ ap (λ l. old.made ++ map to_read l) (take_all (length f.devices + length f.back) paths (let e = opened in omega (e, arith)))

    count : length mid.made ≡ length old.made + length paths
    count = ap length made_all ∙ length-append old.made (map to_read paths) ∙ ap (λ n. length old.made + n) (length-map paths to_read)

    kept : mid.retired ≡ old.retired
    kept = f.made.retired ∙ ap (λ l. old.retired ++ l) back ∙ append-nil old.retired

    tried : take (length (f.devices ++ g.devices) + length g.back) (paths ++ qaths) ≡ paths ++ take (length g.devices + length g.back) qaths
    tried =
        let l = length-append f.devices g.devices in let e = opened in
        ap (λ n. take n (paths ++ qaths)) (let i : length (f.devices ++ g.devices) + length g.back ≡ length paths + (length g.devices + length g.back) = omega (l, e, arith) in i)
        ∙ take-append-add paths qaths (length g.devices + length g.back)

    makes : MakesDevices old new (paths ++ take (length g.devices + length g.back) qaths) g.back
    makes =
        let rest = map to_read (take (length g.devices + length g.back) qaths) in record {
          made = g.made.made ∙ ap (λ l. l ++ rest) made_all ∙ append_assoc old.made (map to_read paths) rest ∙ ap (λ l. old.made ++ l) (sym (map-append to_read paths (take (length g.devices + length g.back) qaths)));
          retired = g.made.retired ∙ ap (λ l. l ++ g.back) kept;
          files = g.made.files ∙ f.made.files;
        }

    out_both : ComeOut told old.files (length old.made) (paths ++ qaths) (f.devices ++ g.devices) g.back (f.contents ++ g.contents) w
    out_both = out_then f.out (subst (λ k. ComeOut told old.files k qaths g.devices g.back g.contents w) count (subst (λ s. ComeOut told s (length mid.made) qaths g.devices g.back g.contents w) f.made.files g.out))

    pub tries_then : TriesTables told ends s' r (paths ++ qaths) old new a c w
    tries_then = record {
      devices = f.devices ++ g.devices;
      back = g.back;
      contents = f.contents ++ g.contents;
      out = out_both;
      made = subst (λ l. MakesDevices old new l g.back) (sym tried) makes;
      unknown = each_append (λ d. IsUnknown (told d).number old.retired) f.devices g.devices f.unknown (subst (λ l. AllByRecursion (λ d. IsUnknown (told d).number l) g.devices) kept g.unknown);
      rows = acquires_then ends a b c s' r f.devices g.devices f.rows (subst (λ n. AcquiresRows ends s' n g.devices b c) (behind ∙ ap (λ n. r + n) (sym opened)) g.rows);
    }

    pub contents_then : tries_then.contents ≡ f.contents ++ g.contents
    unfolding tries_then
    contents_then = refl
