use Rattle.std.proofs.Common.{rules, Option, sym, ap, subst, ◌∙◌}
use Rattle.rtr_bytes.specs.declared.fault.Fault.{Fault}
use Rattle.rtr_bytes.specs.Checks.{RefusedBy}
use Rattle.metadata.specs.declared.schema.Table.TheVariants as tables
use Rattle.metadata.specs.Tables.{Layout}
use Rattle.cli_assembly.specs.Assemblies.{placed_in}
use Rattle.cli_assembly.specs.Kept.{by_row, sig_read}
use Rattle.cli_assembly.specs.Signatures.{field_sig_of, local_sig_of, method_sig_of}
use Rattle.cli_assembly.proofs.AllChecks.{bodies_decide, refused_by_metadata, refused_by_pe}
use Rattle.cli_assembly.proofs.Rows.{fields_are, locals_are, member_fields_are, member_methods_are, methods_are}
use Rattle.cli_assembly.proofs.parts.Parts.read.Goals as goal

pub returns-in_err-pe-clause-malformed : goal.returns-in_err-pe-clause-malformed
returns-in_err-pe-clause-malformed c =
    let all = refused_by_pe c.args.bytes.now c.in_err-pe.field-0.0 c.in_err-pe.ensures.malformed in
    search (rules, all)

pub returns-in_err-metadata-clause-malformed : goal.returns-in_err-metadata-clause-malformed
returns-in_err-metadata-clause-malformed c =
    let all =
    refused_by_metadata c.args.bytes.now c.in_err-metadata.field-0.0 c.in_ok-pe.ensures.well_formed
    c.in_err-metadata.ensures.malformed in
    search (rules, all)

pub returns-in_err-bodies-clause-malformed : goal.returns-in_err-bodies-clause-malformed
returns-in_err-bodies-clause-malformed c =
    let all = subst (λ (o : Option Fault). RefusedBy o c.in_err-bodies.field-0.0)
    (bodies_decide c.args.bytes.now c.in_ok-metadata.metadata c.in_ok-pe.ensures.well_formed
    c.in_ok-metadata.ensures.well_formed c.in_ok-metadata.ensures.layout)
    c.in_err-bodies.ensures.malformed in
    search (rules, all)

pub returns-clause-parts : goal.returns-clause-parts
returns-clause-parts c =
    let bytes = c.args.bytes.now in
    let layout = c.in_ok-metadata.ensures.layout in
    let decide = bodies_decide bytes c.in_ok-metadata.metadata c.in_ok-pe.ensures.well_formed c.in_ok-metadata.ensures.well_formed layout in
    record {
      small = c.requires.small;
      well_formed = sym decide ∙ c.in_ok-bodies.ensures.well_formed;
      headers = c.in_ok-pe.ensures.headers;
      layout = layout;
      methods = c.in_ok-methods.ensures
          ∙ ap (λ (l : Layout). by_row l tables.MethodDef (sig_read method_sig_of bytes l 6 4)) layout ∙ methods_are bytes;
      fields = c.in_ok-fields.ensures
          ∙ ap (λ (l : Layout). by_row l tables.Field (sig_read field_sig_of bytes l 4 2)) layout ∙ fields_are bytes;
      locals = c.in_ok-locals.ensures
          ∙ ap (λ (l : Layout). by_row l tables.StandAloneSig (sig_read local_sig_of bytes l 0x11 0)) layout ∙ locals_are bytes;
      member_methods = c.in_ok-member_methods.ensures
          ∙ ap (λ (l : Layout). by_row l tables.MemberRef (sig_read method_sig_of bytes l 0x0A 2)) layout ∙ member_methods_are bytes;
      member_fields = c.in_ok-member_fields.ensures
          ∙ ap (λ (l : Layout). by_row l tables.MemberRef (sig_read field_sig_of bytes l 0x0A 2)) layout ∙ member_fields_are bytes;
      bodies = c.in_ok-bodies.ensures.bodies ∙ ap (λ (l : Layout). by_row l tables.MethodDef (placed_in bytes l)) layout;
    }
