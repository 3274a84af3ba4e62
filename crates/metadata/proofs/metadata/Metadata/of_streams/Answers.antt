use Rattle.std.proofs.Common.{◌≡◌, Option, IfErr, IfOk, OnOk, None, ◌∙◌, subst}
use Rattle.rtr_bytes.specs.declared.fault.Fault.{Fault}
use Rattle.rtr_bytes.specs.Checks.{RefusedBy}
use Rattle.metadata.specs.Tables.{Layout}
use Rattle.metadata.proofs.Joined.{faults_same, layout_same}
use Rattle.metadata.proofs.metadata.Metadata.of_streams.Goals as goal

pub returns-clause-malformed : goal.returns-clause-malformed
returns-clause-malformed c =
    let layout = c.of.ensures
    ∙ layout_same c.args.bytes.now c.args.span c.args.streams c.args.header c.requires.streams c.requires.header in
    let faults = faults_same c.args.bytes.now c.args.span c.args.streams.tables c.of.result c.requires.streams.tables layout in
    let P : Option Fault → Type 0 = λ f. IfErr c.of_places.result (λ e. RefusedBy f e) in
    subst P faults c.of_places.ensures.malformed

pub returns-clause-well_formed : goal.returns-clause-well_formed
returns-clause-well_formed c =
    let layout = c.of.ensures
    ∙ layout_same c.args.bytes.now c.args.span c.args.streams c.args.header c.requires.streams c.requires.header in
    let faults = faults_same c.args.bytes.now c.args.span c.args.streams.tables c.of.result c.requires.streams.tables layout in
    let P : Option Fault → Type 0 = λ f. OnOk c.of_places.result (f ≡ None) in
    subst P faults c.of_places.ensures.well_formed

pub returns-clause-layout : goal.returns-clause-layout
returns-clause-layout c =
    let layout = c.of.ensures
    ∙ layout_same c.args.bytes.now c.args.span c.args.streams c.args.header c.requires.streams c.requires.header in
    let P : Layout → Type 0 = λ l. IfOk c.of_places.result (λ m. m ≡ l) in
    subst P layout c.of_places.ensures.layout
