-- The fields of a state as text.
use Rattle.std.specs.Prelude.{List, ◌++◌, ℕ, codes}
use Rattle.std.specs.Fmt.{decimal}
use Rattle.sponge.specs.declared.State.{State}

abbrev pub fields_text : State → List ℕ
fields_text state =
    codes "instance " ++ decimal state.instance ++ codes ", phase " ++ decimal state.phase ++ codes ", total " ++ decimal state.total
    ++ codes ", runs " ++ decimal state.runs ++ codes ", extra " ++ decimal state.extra
