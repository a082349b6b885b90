-- Worked runs: tables, their AML in bytes, and a run of each in which a name takes so many arguments, though not in all
-- of them. Each shows a way in which a path may be declared later than the text says, or not at all.
use Prim.Native.String.{String}
use Rattle.std.specs.Prelude.{◌≡◌, ℕ, Bool, true, false, codes, List, [], ◌∷◌, ◌++◌, Some, None}
use Rattle.std.specs.FinSet as set
use Rattle.aml_names.specs.declared.segments.Seg.{Seg}
use Rattle.aml_names.specs.declared.names.Name.{Name}
use Rattle.aml_names.specs.declared.names.NameForm.TheVariants.{Dual}
use Rattle.aml_code.specs.declared.packages.PkgWidth.TheVariants.{One}
use Rattle.aml_code.specs.Lawful.{plain_name}
use Rattle.aml_code.specs.Tree.{Tree, op, Trees, no_trees, tree_more, Part, child, label, byte, Parts, no_parts}
use Rattle.aml_code.specs.Tree.{part_more, Tail, empty, terms, elements, body}
use Rattle.aml_namespace.specs.Kinds.{Kind}
use Rattle.aml_namespace.specs.declared.kinds.Kind.TheVariants as kinds
use Rattle.aml_namespace.specs.Namespace.{Entry, declares, namespace_of, arity_of}
use Rattle.aml_namespace.specs.Runs.{outlook_of, arity_by_kinds}
use Rattle.aml_load.specs.Loading.{LoadsTo}
use Rattle.aml_runs.specs.TableRuns.{IsRunOf}

-- ---- Names, terms and declarations.

-- a path, and the name of one segment or of two
abbrev pub path : List String → List Seg
path [] = []
path (s ∷ ss) = record { 0 = codes s } ∷ path ss

abbrev pub one : String → Name
one s = plain_name (record { 0 = codes s })

abbrev pub two : Bool → String → String → Name
two root s t = record { root = root; ups = 0; form = Dual; segs = path (s ∷ t ∷ []) }

abbrev pub terms_of : List Tree → Trees
terms_of [] = no_trees
terms_of (t ∷ ts) = tree_more t (terms_of ts)

abbrev pub parts_of : List Part → Parts
parts_of [] = no_parts
parts_of (p ∷ ps) = part_more p (parts_of ps)

-- a term with these parts; one with a package length of one byte too, and a tail
abbrev pub plain : ℕ → List Part → Tree
plain o ps = op o None (parts_of ps) empty

abbrev pub packed : ℕ → List Part → Tail → Tree
packed o ps r = op o (Some One) (parts_of ps) r

-- a block of terms
abbrev pub block : ℕ → List Part → List Tree → Tree
block o ps ts = packed o ps (terms (terms_of ts))

-- Zero and One
abbrev pub number : ℕ → Part
number o = child (plain o [])

abbrev pub method : Name → ℕ → ℕ → ℕ → Tree
method n args start len = packed 0x14 (label n ∷ byte args ∷ []) (body start len)

abbrev pub declaration : List String → Kind → Entry
declaration p k = declares (path p) k None true

-- \DEV0.BAR_, and NEW_
abbrev pub dev0_bar : Name
dev0_bar = two true "DEV0" "BAR_"

abbrev pub new : Name
new = one "NEW_"

-- ---- What is shown of each.

-- A table of these bytes loads as these terms, and has this run. In it the name takes so many arguments in the method
-- CALL, though the kinds that it may mean don't tell it.
pub record IsWorked (code : List ℕ) (ts : List Tree) (n : List Entry) (name : Name) (count : ℕ) : Type 0 where
  pub entries : List Entry
  pub loads : LoadsTo true false [] (code ∷ []) (terms_of ts ∷ []) entries
  pub run : IsRunOf (terms_of ts ∷ []) n
  pub counted : arity_of (namespace_of n) false (path ("CALL" ∷ [])) set.empty name ≡ Some count
  pub untold : arity_by_kinds (outlook_of entries) (path ("CALL" ∷ [])) set.empty name ≡ None

-- A declaration below a path that comes later is passed over.
--     Name (\DEV0.BAR_, Zero)
--     Device (DEV0) { Method (BAR_, 1) {} }
--     Method (CALL, 0) { \DEV0.BAR_ (One) }
abbrev pub early_code : List ℕ
early_code = 0x08 ∷ 0x5C ∷ 0x2E ∷ codes "DEV0BAR_" ++ 0x00 ∷
    0x5B ∷ 0x82 ∷ 0x0C ∷ codes "DEV0" ++ 0x14 ∷ 0x06 ∷ codes "BAR_" ++ 0x01 ∷
    0x14 ∷ 0x11 ∷ codes "CALL" ++ 0x00 ∷ 0x5C ∷ 0x2E ∷ codes "DEV0BAR_" ++ 0x01 ∷ []

abbrev pub early_terms : List Tree
early_terms = plain 0x08 (label dev0_bar ∷ number 0x00 ∷ []) ∷
    block 0x5B82 (label (one "DEV0") ∷ []) (method (one "BAR_") 1 26 0 ∷ []) ∷ method (one "CALL") 0 33 11 ∷ []

abbrev pub early_run : List Entry
early_run = declaration ("DEV0" ∷ []) kinds.Device ∷ declaration ("DEV0" ∷ "BAR_" ∷ []) (kinds.Method 1) ∷
    declaration ("CALL" ∷ []) (kinds.Method 0) ∷ []

-- And so is one below a path in an If that isn't taken.
--     If (Zero) { Device (DEV0) {} }
--     Method (DEV0.BAR_, 2) {}
--     Device (DEV0) { Method (BAR_, 1) {} }
--     Method (CALL, 0) { \DEV0.BAR_ (One), One }
abbrev pub untaken_code : List ℕ
untaken_code = 0xA0 ∷ 0x09 ∷ 0x00 ∷ 0x5B ∷ 0x82 ∷ 0x05 ∷ codes "DEV0" ++
    0x14 ∷ 0x0B ∷ 0x2E ∷ codes "DEV0BAR_" ++ 0x02 ∷
    0x5B ∷ 0x82 ∷ 0x0C ∷ codes "DEV0" ++ 0x14 ∷ 0x06 ∷ codes "BAR_" ++ 0x01 ∷
    0x14 ∷ 0x12 ∷ codes "CALL" ++ 0x00 ∷ 0x5C ∷ 0x2E ∷ codes "DEV0BAR_" ++ 0x01 ∷ 0x01 ∷ []

abbrev pub untaken_terms : List Tree
untaken_terms = block 0xA0 (number 0x00 ∷ []) (block 0x5B82 (label (one "DEV0") ∷ []) [] ∷ []) ∷
    method (two false "DEV0" "BAR_") 2 22 0 ∷
    block 0x5B82 (label (one "DEV0") ∷ []) (method (one "BAR_") 1 36 0 ∷ []) ∷ method (one "CALL") 0 43 12 ∷ []

abbrev pub untaken_run : List Entry
untaken_run = early_run

-- And one below a path behind a Break.
--     While (One) { Name (AAAA, Zero)  Break  Device (DEV0) {} }
--     Method (DEV0.BAR_, 2) {}
--     Device (DEV0) { Method (BAR_, 1) {} }
--     Method (CALL, 0) { \DEV0.BAR_ (One), One }
abbrev pub left_code : List ℕ
left_code = 0xA2 ∷ 0x10 ∷ 0x01 ∷ 0x08 ∷ codes "AAAA" ++ 0x00 ∷ 0xA5 ∷ 0x5B ∷ 0x82 ∷ 0x05 ∷ codes "DEV0" ++
    0x14 ∷ 0x0B ∷ 0x2E ∷ codes "DEV0BAR_" ++ 0x02 ∷
    0x5B ∷ 0x82 ∷ 0x0C ∷ codes "DEV0" ++ 0x14 ∷ 0x06 ∷ codes "BAR_" ++ 0x01 ∷
    0x14 ∷ 0x12 ∷ codes "CALL" ++ 0x00 ∷ 0x5C ∷ 0x2E ∷ codes "DEV0BAR_" ++ 0x01 ∷ 0x01 ∷ []

abbrev pub left_terms : List Tree
left_terms = block 0xA2 (number 0x01 ∷ []) (plain 0x08 (label (one "AAAA") ∷ number 0x00 ∷ []) ∷ plain 0xA5 [] ∷
    block 0x5B82 (label (one "DEV0") ∷ []) [] ∷ []) ∷
    method (two false "DEV0" "BAR_") 2 29 0 ∷
    block 0x5B82 (label (one "DEV0") ∷ []) (method (one "BAR_") 1 43 0 ∷ []) ∷ method (one "CALL") 0 50 12 ∷ []

abbrev pub left_run : List Entry
left_run = declaration ("AAAA" ∷ []) kinds.Name ∷ early_run

-- A Scope of a Name may be passed over, or opened.
--     Name (DEV0, Package (0) {})
--     Scope (DEV0) { Method (BAR_, 2) {} }
--     Method (DEV0.BAR_, 1) {}
--     Method (CALL, 0) { \DEV0.BAR_ (One), One }
abbrev pub named_code : List ℕ
named_code = 0x08 ∷ codes "DEV0" ++ 0x12 ∷ 0x02 ∷ 0x00 ∷
    0x10 ∷ 0x0C ∷ codes "DEV0" ++ 0x14 ∷ 0x06 ∷ codes "BAR_" ++ 0x02 ∷
    0x14 ∷ 0x0B ∷ 0x2E ∷ codes "DEV0BAR_" ++ 0x01 ∷
    0x14 ∷ 0x12 ∷ codes "CALL" ++ 0x00 ∷ 0x5C ∷ 0x2E ∷ codes "DEV0BAR_" ++ 0x01 ∷ 0x01 ∷ []

abbrev pub named_terms : List Tree
named_terms = plain 0x08 (label (one "DEV0") ∷ child (packed 0x12 (byte 0 ∷ []) (elements no_trees)) ∷ []) ∷
    block 0x10 (label (one "DEV0") ∷ []) (method (one "BAR_") 2 21 0 ∷ []) ∷
    method (two false "DEV0" "BAR_") 1 33 0 ∷ method (one "CALL") 0 40 12 ∷ []

abbrev pub named_run : List Entry
named_run = declaration ("DEV0" ∷ []) kinds.Name ∷ declaration ("DEV0" ∷ "BAR_" ∷ []) (kinds.Method 1) ∷
    declaration ("CALL" ∷ []) (kinds.Method 0) ∷ []

abbrev pub opened_run : List Entry
opened_run = declaration ("DEV0" ∷ []) kinds.Name ∷ declaration ("DEV0" ∷ "BAR_" ∷ []) (kinds.Method 2) ∷
    declaration ("CALL" ∷ []) (kinds.Method 0) ∷ []

-- An Alias of a source in an If that isn't taken is passed over.
--     If (Zero) { Method (SRC_, 2) {} }
--     Alias (SRC_, NEW_)
--     Method (NEW_, 1) {}
--     Method (CALL, 0) { NEW_ (One), One }
abbrev pub unsourced_code : List ℕ
unsourced_code = 0xA0 ∷ 0x09 ∷ 0x00 ∷ 0x14 ∷ 0x06 ∷ codes "SRC_" ++ 0x02 ∷ 0x06 ∷ codes "SRC_NEW_" ++
    0x14 ∷ 0x06 ∷ codes "NEW_" ++ 0x01 ∷ 0x14 ∷ 0x0C ∷ codes "CALL" ++ 0x00 ∷ codes "NEW_" ++ 0x01 ∷ 0x01 ∷ []

abbrev pub unsourced_terms : List Tree
unsourced_terms = block 0xA0 (number 0x00 ∷ []) (method (one "SRC_") 2 10 0 ∷ []) ∷
    plain 0x06 (label (one "SRC_") ∷ label new ∷ []) ∷ method new 1 26 0 ∷ method (one "CALL") 0 33 6 ∷ []

abbrev pub unsourced_run : List Entry
unsourced_run = declaration ("NEW_" ∷ []) (kinds.Method 1) ∷ declaration ("CALL" ∷ []) (kinds.Method 0) ∷ []

-- An Alias aims at what its source stands for there: at MM2_ where the Else is taken.
--     Method (MM1_, 1) {}
--     Method (MM2_, 2) {}
--     If (Zero) { Alias (MM1_, SRC_) }
--     Else { Alias (MM2_, SRC_) }
--     Alias (SRC_, NEW_)
--     Method (CALL, 0) { NEW_ (One, One) }
abbrev pub aimed_code : List ℕ
aimed_code = 0x14 ∷ 0x06 ∷ codes "MM1_" ++ 0x01 ∷ 0x14 ∷ 0x06 ∷ codes "MM2_" ++ 0x02 ∷
    0xA0 ∷ 0x0B ∷ 0x00 ∷ 0x06 ∷ codes "MM1_SRC_" ++ 0xA1 ∷ 0x0A ∷ 0x06 ∷ codes "MM2_SRC_" ++
    0x06 ∷ codes "SRC_NEW_" ++ 0x14 ∷ 0x0C ∷ codes "CALL" ++ 0x00 ∷ codes "NEW_" ++ 0x01 ∷ 0x01 ∷ []

abbrev pub aimed_terms : List Tree
aimed_terms = method (one "MM1_") 1 7 0 ∷ method (one "MM2_") 2 14 0 ∷
    block 0xA0 (number 0x00 ∷ []) (plain 0x06 (label (one "MM1_") ∷ label (one "SRC_") ∷ []) ∷ []) ∷
    block 0xA1 [] (plain 0x06 (label (one "MM2_") ∷ label (one "SRC_") ∷ []) ∷ []) ∷
    plain 0x06 (label (one "SRC_") ∷ label new ∷ []) ∷ method (one "CALL") 0 53 6 ∷ []

abbrev pub aimed_run : List Entry
aimed_run = declaration ("MM1_" ∷ []) (kinds.Method 1) ∷ declaration ("MM2_" ∷ []) (kinds.Method 2) ∷
    declaration ("SRC_" ∷ []) (kinds.Alias false (path ("MM2_" ∷ []))) ∷
    declaration ("NEW_" ∷ []) (kinds.Alias false (path ("MM2_" ∷ []))) ∷ declaration ("CALL" ∷ []) (kinds.Method 0) ∷ []
