-- The names that stand in every namespace (ACPI 6.5, 5.3.1 and 5.7).
use Prim.Native.String.{String}
use Rattle.std.specs.Prelude.{Bool, bytes_eq, codes, cond, List, [], ◌∷◌, Option, Some, None}
use Rattle.std.specs.List.{list_any}
use Rattle.aml_names.specs.declared.segments.Seg.{Seg}
use Rattle.aml_namespace.specs.Kinds.{Kind}
use Rattle.aml_namespace.specs.declared.kinds.Kind.TheVariants.{Scope, Name, Method, Mutex}

-- whether a segment is one of these
abbrev pub is_one_of : List String → Seg → Bool
is_one_of names s = list_any (λ (name : String). bytes_eq (codes name) s.0) names

-- the kind of a predefined path: of the root, or of a segment below it
abbrev pub predefined : List Seg → Option Kind
predefined [] = Some Scope
predefined (s ∷ []) = cond (is_one_of ("_GPE" ∷ "_PR_" ∷ "_SB_" ∷ "_SI_" ∷ "_TZ_" ∷ []) s) (Some Scope)
    (cond (is_one_of ("_GL_" ∷ []) s) (Some Mutex)
    (cond (is_one_of ("_OS_" ∷ "_REV" ∷ []) s) (Some Name)
    (cond (is_one_of ("_OSI" ∷ []) s) (Some (Method 1)) None)))
predefined (s ∷ t ∷ rest) = None
