-- The worked runs: each computes, and so does the load of its table.
use Prim.Native.String.{String}
use Rattle.std.specs.Prelude.{◌≡◌, ℕ, zero, suc, ◌<◌, ◌&&◌, Bool, true, false, nat_lt, List, [], ◌∷◌, ◌++◌, get_or}
use Rattle.std.specs.Prelude.{Some, None, Result, Ok, refl}
use Rattle.std.proofs.Common.{inl, inr, subst, arith}
use Rattle.std.proofs.lemmas.Bool.{false≢true, ltb-true}
use Rattle.std.specs.List.{list_all}
use Rattle.std.specs.Result.{MatchResult}
use Rattle.std.specs.FinSet as set
use Rattle.aml_names.specs.NameReading.{segment_at, segments_at, form_at, parents, path_at, name_at}
use Rattle.aml_names.specs.Paths.{path_cmp}
use Rattle.aml_code.specs.Opcodes.{rows, row_of}
use Rattle.aml_code.specs.Packages.{little_at, value_at, length_at, span_at}
use Rattle.aml_code.specs.Tree.{Tree, Trees}
use Rattle.aml_parse.specs.Reading.{segmented_at, parts_at, to_end_at, opcode_at, plain_at, packed_at, taken_at}
use Rattle.aml_parse.specs.Reading.{operation_at, term_at, read_at, step_at}
use Rattle.aml_parse.specs.Running.{run_term_at, run_terms_at, run_span_at, run_table_at}
use Rattle.aml_namespace.specs.Kinds.{Kind}
use Rattle.aml_namespace.specs.declared.kinds.Kind.TheVariants as kinds
use Rattle.aml_namespace.specs.Namespace.{Entry, declares}
use Rattle.aml_load.specs.declared.faults.LoadFault.{LoadFault}
use Rattle.aml_load.specs.Declaring.{Listed, place_at, entry_at, method_at, new_at, alias_at, lead_at}
use Rattle.aml_load.specs.Declaring.{uses_at}
use Rattle.aml_load.specs.Loading.{role_of, LoadsTo}
use Rattle.aml_load.specs.Running.{entered_at, enter_as, flat_at, object_at, scope_at, opened_at}
use Rattle.aml_load.specs.Tables.{StopsFor, load_at, tables_at, table_at, LoadsForward}
use Rattle.aml_runs.specs.TableRuns.{IsRunOf}
use Rattle.aml_runs.specs.Worked.{unsourced_code, unsourced_terms, unsourced_run, path, dev0_bar, new, terms_of}
use Rattle.aml_runs.specs.Worked.{declaration, IsWorked, early_code, early_terms, early_run, untaken_code}
use Rattle.aml_runs.specs.Worked.{untaken_terms, untaken_run, left_code, left_terms, left_run, named_code, named_terms}
use Rattle.aml_runs.specs.Worked.{named_run, opened_run, aimed_code, aimed_terms, aimed_run}

-- ---- Loads.

both : (a b : Bool) → (a && b) ≡ true → (a ≡ true) × (b ≡ true)
both true b all = (refl, all)
both false b all = absurd (false≢true all)

bytes_below : (code : List ℕ) → list_all (λ b. nat_lt b 256) code ≡ true → (i : ℕ) → get_or code i 0 < 256
bytes_below [] all i = grind arith
bytes_below (b ∷ code) all zero = ltb-true b 256 (both (nat_lt b 256) _ all).0
bytes_below (b ∷ code) all (suc i) = bytes_below code (both (nat_lt b 256) _ all).1 i

abbrev Forward : Type 0
Forward = (codes : List (List ℕ)) → LoadsForward true false [] codes

loads_by : Forward → (code : List ℕ) (ts : Trees) (m : Listed) → list_all (λ b. nat_lt b 256) code ≡ true
    → load_at true false [] (code ∷ []) ≡ Ok (ts ∷ [], m) → LoadsTo true false [] (code ∷ []) (ts ∷ []) m.entries
loads_by forward code ts m bytes is =
    subst (λ (r : Result (List Trees × Listed) LoadFault). MatchResult r (λ x. LoadsTo true false [] (code ∷ []) x.0 x.1.entries) (λ e. StopsFor true false [] (code ∷ []) e))
    is (forward (code ∷ []) (bytes_below code bytes, tt))

-- what is listed: methods with the span of their body, and other entries
abbrev span : List String → ℕ → ℕ → ℕ → Bool → Entry
span p args start len sure =
    declares (path p) (kinds.Method args) (Some (record { table = 0; start = start; len = len; flags = args })) sure

abbrev entry : List String → Kind → Bool → Entry
entry p k sure = declares (path p) k None sure

abbrev listed : List Entry → Listed
listed es = record { entries = es; uses = [] }

abbrev early_listed : Listed
early_listed = listed (entry ("DEV0" ∷ "BAR_" ∷ []) kinds.Name false ∷ entry ("DEV0" ∷ []) kinds.Device true ∷
    span ("DEV0" ∷ "BAR_" ∷ []) 1 26 0 true ∷ span ("CALL" ∷ []) 0 33 11 true ∷ [])

abbrev untaken_listed : Listed
untaken_listed = listed (entry ("DEV0" ∷ []) kinds.Device false ∷ span ("DEV0" ∷ "BAR_" ∷ []) 2 22 0 false ∷
    entry ("DEV0" ∷ []) kinds.Device true ∷ span ("DEV0" ∷ "BAR_" ∷ []) 1 36 0 false ∷ span ("CALL" ∷ []) 0 43 12 true ∷ [])

abbrev left_listed : Listed
left_listed = listed (entry ("AAAA" ∷ []) kinds.Name false ∷ entry ("DEV0" ∷ []) kinds.Device false ∷
    span ("DEV0" ∷ "BAR_" ∷ []) 2 29 0 false ∷ entry ("DEV0" ∷ []) kinds.Device true ∷
    span ("DEV0" ∷ "BAR_" ∷ []) 1 43 0 false ∷ span ("CALL" ∷ []) 0 50 12 true ∷ [])

abbrev named_listed : Listed
named_listed = listed (entry ("DEV0" ∷ []) kinds.Name true ∷ span ("DEV0" ∷ "BAR_" ∷ []) 2 21 0 false ∷
    span ("DEV0" ∷ "BAR_" ∷ []) 1 33 0 true ∷ span ("CALL" ∷ []) 0 40 12 true ∷ [])

abbrev unsourced_listed : Listed
unsourced_listed = listed (span ("SRC_" ∷ []) 2 10 0 false ∷ entry ("NEW_" ∷ []) (kinds.Alias false (path ("SRC_" ∷ []))) false ∷
    span ("NEW_" ∷ []) 1 26 0 true ∷ span ("CALL" ∷ []) 0 33 6 true ∷ [])

abbrev aimed_listed : Listed
aimed_listed = listed (span ("MM1_" ∷ []) 1 7 0 true ∷ span ("MM2_" ∷ []) 2 14 0 true ∷
    entry ("SRC_" ∷ []) (kinds.Alias false (path ("MM1_" ∷ []))) false ∷
    entry ("SRC_" ∷ []) (kinds.Alias false (path ("MM2_" ∷ []))) false ∷
    entry ("NEW_" ∷ []) (kinds.Alias true (path ("MM1_" ∷ []))) false ∷ span ("CALL" ∷ []) 0 53 6 true ∷ [])

abbrev Loads : List ℕ → List Tree → Listed → Type 0
Loads code ts m = load_at true false [] (code ∷ []) ≡ Ok (terms_of ts ∷ [], m)

-- loading forward computes
loads : Loads early_code early_terms early_listed × Loads untaken_code untaken_terms untaken_listed
    × Loads left_code left_terms left_listed × Loads named_code named_terms named_listed
    × Loads unsourced_code unsourced_terms unsourced_listed × Loads aimed_code aimed_terms aimed_listed
unfolding load_at tables_at table_at uses_at run_term_at run_terms_at run_span_at run_table_at segmented_at parts_at to_end_at opcode_at plain_at packed_at taken_at operation_at term_at read_at step_at little_at value_at length_at span_at segment_at segments_at form_at parents path_at name_at entered_at enter_as object_at scope_at opened_at place_at entry_at flat_at method_at new_at alias_at lead_at role_of row_of rows
loads = (refl, refl, refl, refl, refl, refl)

-- ---- Runs.

abbrev with_method : List Entry
with_method = declaration ("DEV0" ∷ []) kinds.Device ∷ declaration ("DEV0" ∷ "BAR_" ∷ []) (kinds.Method 1) ∷ []

abbrev aaaa : List Entry
aaaa = declaration ("AAAA" ∷ []) kinds.Name ∷ []

abbrev named : List Entry
named = declaration ("DEV0" ∷ []) kinds.Name ∷ []

abbrev aims : List Entry
aims = declaration ("MM1_" ∷ []) (kinds.Method 1) ∷ declaration ("MM2_" ∷ []) (kinds.Method 2) ∷ []

abbrev source : Entry
source = declaration ("SRC_" ∷ []) (kinds.Alias false (path ("MM2_" ∷ [])))

abbrev Ran : List Tree → List Entry → Type 0
Ran ts n = IsRunOf (terms_of ts ∷ []) n

early_ran : Ran early_terms early_run
unfolding role_of row_of rows
early_ran = (
  early_run,
  inr ([], inl (refl, refl), inr (with_method, inr (refl, inr (with_method, refl, refl)), inr (early_run, refl, refl))),
  refl,
)

-- no term of the If
untaken_ran : Ran untaken_terms untaken_run
unfolding role_of row_of rows
untaken_ran = (
  untaken_run,
  inr ([], inl (refl, refl), inr ([], refl, inr (with_method, inr (refl, inr (with_method, refl, refl)), inr (untaken_run, refl, refl)))),
  refl,
)

-- two terms of the While
left_ran : Ran left_terms left_run
unfolding role_of row_of rows
left_ran = (
  left_run,
  inr (
    aaaa,
    inr (aaaa, inr (refl, refl), inr (aaaa, refl, inl (refl, refl))),
    inr (aaaa, refl, inr (aaaa ++ with_method, inr (refl, inr (aaaa ++ with_method, refl, refl)), inr (left_run, refl, refl))),
  ),
  refl,
)

named_ran : Ran named_terms named_run
unfolding role_of row_of rows
named_ran = (
  named_run,
  inr (named, inr (refl, refl), inr (named, inr (refl, refl), inr (named ++ declaration ("DEV0" ∷ "BAR_" ∷ []) (kinds.Method 1) ∷ [], refl, inr (named_run, refl, refl)))),
  refl,
)

opened_ran : Ran named_terms opened_run
unfolding role_of row_of rows
opened_ran =
    let bar = named ++ declaration ("DEV0" ∷ "BAR_" ∷ []) (kinds.Method 2) ∷ [] in (
      opened_run,
      inr (named, inr (refl, refl), inr (bar, inl (refl, inr (bar, refl, refl)), inr (bar, refl, inr (opened_run, refl, refl)))),
      refl,
    )

-- no term of the If
unsourced_ran : Ran unsourced_terms unsourced_run
unfolding role_of row_of rows
unsourced_ran =
    let new_method = declaration ("NEW_" ∷ []) (kinds.Method 1) ∷ [] in (
      unsourced_run,
      inr ([], inl (refl, refl), inr ([], refl, inr (new_method, refl, inr (unsourced_run, refl, refl)))),
      refl,
    )

-- no term of the If, and all of the Else
aimed_ran : Ran aimed_terms aimed_run
unfolding role_of row_of rows
aimed_ran = (
  aimed_run,
  inr (
    declaration ("MM1_" ∷ []) (kinds.Method 1) ∷ [],
    refl,
    inr (
      aims,
      refl,
      inr (
        aims,
        inl (refl, refl),
        inr (
          aims ++ source ∷ [],
          inr (aims ++ source ∷ [], refl, refl),
          inr (aims ++ source ∷ declaration ("NEW_" ∷ []) (kinds.Alias false (path ("MM2_" ∷ []))) ∷ [], refl, inr (aimed_run, refl, refl)),
        ),
      ),
    ),
  ),
  refl,
)

-- ---- The counts.

module _ (forward : Forward) where
  pub early : IsWorked early_code early_terms early_run dev0_bar 1
  early = record {
    entries = early_listed.entries;
    loads = loads_by forward early_code (terms_of early_terms) early_listed refl loads.0;
    run = early_ran;
    counted = simp (set.contains-empty path_cmp);
    untold = simp (set.contains-empty path_cmp);
  }

  pub untaken : IsWorked untaken_code untaken_terms untaken_run dev0_bar 1
  untaken = record {
    entries = untaken_listed.entries;
    loads = loads_by forward untaken_code (terms_of untaken_terms) untaken_listed refl loads.1;
    run = untaken_ran;
    counted = simp (set.contains-empty path_cmp);
    untold = simp (set.contains-empty path_cmp);
  }

  pub left : IsWorked left_code left_terms left_run dev0_bar 1
  left = record {
    entries = left_listed.entries;
    loads = loads_by forward left_code (terms_of left_terms) left_listed refl loads.2;
    run = left_ran;
    counted = simp (set.contains-empty path_cmp);
    untold = simp (set.contains-empty path_cmp);
  }

  pub under_name : IsWorked named_code named_terms named_run dev0_bar 1
  under_name = record {
    entries = named_listed.entries;
    loads = loads_by forward named_code (terms_of named_terms) named_listed refl loads.3;
    run = named_ran;
    counted = simp (set.contains-empty path_cmp);
    untold = simp (set.contains-empty path_cmp);
  }

  pub opened : IsWorked named_code named_terms opened_run dev0_bar 2
  opened = record {
    entries = named_listed.entries;
    loads = loads_by forward named_code (terms_of named_terms) named_listed refl loads.3;
    run = opened_ran;
    counted = simp (set.contains-empty path_cmp);
    untold = simp (set.contains-empty path_cmp);
  }

  pub unsourced : IsWorked unsourced_code unsourced_terms unsourced_run new 1
  unsourced = record {
    entries = unsourced_listed.entries;
    loads = loads_by forward unsourced_code (terms_of unsourced_terms) unsourced_listed refl loads.4;
    run = unsourced_ran;
    counted = simp (set.contains-empty path_cmp);
    untold = simp (set.contains-empty path_cmp);
  }

  pub aimed : IsWorked aimed_code aimed_terms aimed_run new 2
  aimed = record {
    entries = aimed_listed.entries;
    loads = loads_by forward aimed_code (terms_of aimed_terms) aimed_listed refl loads.5;
    run = aimed_ran;
    counted = simp (set.contains-empty path_cmp);
    untold = simp (set.contains-empty path_cmp);
  }
